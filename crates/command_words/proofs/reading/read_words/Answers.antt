use Rattle.command_words.proofs.Common.{◌≡◌, ◌∙◌, None, app_of, kind_of, subcommand_rows_of, command_in, line_in, ◌⊎◌, true, List, [], ◌∷◌, Option, Result, Err, IfErr, inl, inr, refl, sym, ap₂, subst, map, App, Row, Text, fault_of, is_simple, is_simple_and_free, subcommand_of, bugnet_app, Line, line_of, without_fault}
use Rattle.std.proofs.lemmas.Result.{IfOk-weaker}
use Rattle.command_words.specs.declared.error.WordsError.TheVariants as words_error
use Rattle.clap.specs.Kinds.{IsAmong, Kinds}
use Rattle.clap.specs.declared.error.kind.ErrorKind.{ErrorKind}
use Rattle.clap.specs.declared.error.kind.ErrorKind.TheVariants as kind
use Rattle.std.specs.String.{string_bytes}
use Rattle.std.specs.declared.string.String.{String}
use Rattle.std.specs.declared.alloc.Global.{Global}
use Rattle.command_words.proofs.reading.read_words.Goals as goal

-- What a parse of the whole command says of the line.
abbrev line_by : Kinds → Option (Text × List Row) → Option Line
line_by kinds sub = without_fault kinds (line_in sub)

line_of-by : (words : List Text) → line_of words ≡ line_by (fault_of bugnet_app words) (subcommand_of bugnet_app words)
unfolding line_of
line_of-by words = refl

is_free : is_simple_and_free bugnet_app ≡ true
is_free = refl

is_plain : is_simple bugnet_app ≡ true
is_plain = refl

none_by : (kinds : Kinds) (sub : Option (Text × List Row)) (k : ErrorKind) → (k ≡ kind.OutOfMemory → ⊥) → (k ≡ kind.OutOfMemory) ⊎ IsAmong k kinds → line_by kinds sub ≡ None
none_by [] sub k other (inl e) = absurd (other e)
none_by [] sub k other (inr e) = absurd e
none_by (x ∷ xs) sub k other h = refl

-- an error other than out of memory: the words are refused
refuses : (a : App) (words : List Text) (k : ErrorKind) → a ≡ bugnet_app → (k ≡ kind.OutOfMemory → ⊥)
    → (is_simple_and_free a ≡ true → (k ≡ kind.OutOfMemory) ⊎ IsAmong k (fault_of a words)) → line_of words ≡ None
refuses a words k is other h =
    let has = subst (λ (x : App). is_simple_and_free x ≡ true → (k ≡ kind.OutOfMemory) ⊎ IsAmong k (fault_of x words)) is h is_free in
    line_of-by words ∙ none_by _ (subcommand_of bugnet_app words) k other has

-- matches: the words say what their subcommand says
takes_line : (a : App) (words : List Text) (sub : Option (Text × List Row)) → a ≡ bugnet_app → (is_simple_and_free a ≡ true → fault_of a words ≡ [])
    → (is_simple a ≡ true → sub ≡ subcommand_of a words) → line_of words ≡ line_in sub
takes_line a words sub is h rows =
    let none = subst (λ (x : App). is_simple_and_free x ≡ true → fault_of x words ≡ []) is h is_free in
    let same = subst (λ (x : App). is_simple x ≡ true → sub ≡ subcommand_of x words) is rows is_plain in
    line_of-by words ∙ ap₂ line_by none (sym same)

command_in-line : (words : List (String Global)) → command_in words ≡ line_of (map string_bytes words)
unfolding command_in
command_in-line words = refl

-- the same of words
command-refuses : (a : App) (words : List (String Global)) (k : ErrorKind) → a ≡ bugnet_app → (k ≡ kind.OutOfMemory → ⊥)
    → (is_simple_and_free a ≡ true → (k ≡ kind.OutOfMemory) ⊎ IsAmong k (fault_of a (map string_bytes words))) → command_in words ≡ None
command-refuses a words k is other h = command_in-line words ∙ refuses a (map string_bytes words) k is other h

command-takes : (a : App) (words : List (String Global)) (sub : Option (Text × List Row)) → a ≡ bugnet_app
    → (is_simple_and_free a ≡ true → fault_of a (map string_bytes words) ≡ [])
    → (is_simple a ≡ true → sub ≡ subcommand_of a (map string_bytes words)) → command_in words ≡ line_in sub
command-takes a words sub is h rows = command_in-line words ∙ takes_line a (map string_bytes words) sub is h rows

-- the same answer has the same error
same_err : {X E : Type 0} (e f : E) → ◌≡◌ {A = Result X E} (Err e) (Err f) → e ≡ f
same_err e f is = cc

-- what is said of each error holds of the one there is
err_says : {X E : Type 0} (P : E → Type 0) (r : Result X E) (e : E) → r ≡ Err e → IfErr r P → P e
err_says {X} {E} P r e is h = subst (λ (q : Result X E). IfErr q P) is h

pub returns-in-Ok-clause-taken : goal.returns-in-Ok-clause-taken
returns-in-Ok-clause-taken c =
    let taken : command_in c.args.words.now ≡ line_in (subcommand_rows_of c.in-Ok.matches) =
    command-takes (app_of c.in_ok-command.command) c.args.words.now (subcommand_rows_of c.in-Ok.matches)
    c.in_ok-command.ensures.0 c.in-Ok.ensures.kinds (λ e. (c.in-Ok.ensures.matches e).1) in
    IfOk-weaker c.asked_by.result _ _ (λ _ h. taken ∙ h) c.asked_by.ensures.taken

pub returns-in-Ok-clause-refused : goal.returns-in-Ok-clause-refused
returns-in-Ok-clause-refused c = λ e.
    let taken : command_in c.args.words.now ≡ line_in (subcommand_rows_of c.in-Ok.matches) =
    command-takes (app_of c.in_ok-command.command) c.args.words.now (subcommand_rows_of c.in-Ok.matches)
    c.in_ok-command.ensures.0 c.in-Ok.ensures.kinds (λ e. (c.in-Ok.ensures.matches e).1) in
    taken ∙ (err_says (λ d. (d ≡ words_error.Refused) × (line_in (subcommand_rows_of c.in-Ok.matches) ≡ None))
    c.asked_by.result words_error.Refused e c.asked_by.ensures.refused).1

pub returns-in-Err-clause-refused : goal.returns-in-Err-clause-refused
returns-in-Err-clause-refused c = λ e. command-refuses (app_of c.in_ok-command.command) c.args.words.now (kind_of c.in-Err.error)
    c.in_ok-command.ensures.0 (c.refusal_by.ensures.0 (same_err _ _ e)) c.in-Err.ensures.kinds
