-- A crash with format 2 is shown by `list` and `replay`.
use Rattle.bugnet.proofs.Common.{◌≡◌, ℕ, ◌+◌, ◌<◌, ◌≤◌, ◌==◌, ◌&&◌, Bool, true, false, List, [], ◌∷◌, ◌++◌, nat_lt, Some, ◌∙◌, ap, subst, sym, refl, arith, inl, inr, ◌⊎◌, append_assoc, if◌then◌else◌, nat_tests, sha256, fault_number, Program, IsSetting, EndMark, RawSettings, Files, RecordingLine, ListLine, Content, IsContent, saved_bytes, Record, Header, kept_of, dropped_of, content_of, start, run_of, run_from, is_live, legal_from, Run, turn, mark, OwnAsksAreOrderly, IsGuarding, HasEnded, FaultsAreKept, names_in, IsAnswer, WithFile, IsByLog, list_of, IsCrash, mark_of_crash, HasLine, ShowsCrash, CrashesAreShown, RecordingsAreReplayed, marks_of, end_by, end_status, Leaves, RunEnd, mark_in, interval_text, record_text, list_text, Told, ReadingsAreUnique, LogsAreContents, SavedHaveTheirLimit, FilesAreRead, None}
use Rattle.log_commands.specs.declared.answer.RunEnd.TheVariants as ends
use Rattle.log_commands.specs.declared.names.Role.TheVariants as role
use Rattle.bugnet.proofs.LastEnds.{Closes, closes}
use Rattle.bugnet.proofs.FaultTurns.{is-crash}
use Rattle.bugnet.proofs.Single.{Grammar}
use Rattle.bugnet.proofs.Suffices.{FileLaws, by-file, by-content}

-- ---- the premises of the law of faults

most : (format : ℕ) → format ≡ 2 → ◌≡◌ {A = ℕ} (if format == 2 then 16 else 8) 16
most format e = ap (λ (n : ℕ). if n == 2 then 16 else 8) e

guards : (c : RawSettings) → c.format ≡ 2 → IsSetting c → IsGuarding c
guards c e is = record {
  format = e;
  harts_high = subst (λ (n : ℕ). c.harts ≤ n) (most c.format e) is.harts_high;
  interval_low = is.interval_low;
  limit_high = is.limit_high;
  log_size_low = is.log_size_low;
}

-- the hart of a legal list's last turn is there
below : (k n : ℕ) (live : Bool) → (nat_lt k n && live) ≡ true → k < n
below k n live e = go (nat_lt k n) refl e
  where
    less : (a b : ℕ) → nat_lt a b ≡ true → a < b
    less a b e = grind (arith, nat_tests)

    go : (b : Bool) → nat_lt k n ≡ b → (b && live) ≡ true → k < n
    go true q e = less k n q
    go false q e = absurd cc

last-live : (c : RawSettings) (i : Program) (run : Run) (b : List ℕ) (k : ℕ) → legal_from c i run (b ++ k ∷ []) ≡ true → is_live c (run_from c i run b) k ≡ true
last-live c i run [] k e = by (is_live c run k) e
  where
    by : (live : Bool) → elim live as (λ x. Bool) [ true ↦ true | false ↦ false ] ≡ true → live ≡ true
    by true e = refl
    by false e = e
last-live c i run (j ∷ b) k e = last-live c i (turn c i run j) b k (by (is_live c run j) (legal_from c i (turn c i run j) (b ++ k ∷ [])) e)
  where
    by : (live legal : Bool) → elim live as (λ x. Bool) [ true ↦ legal | false ↦ false ] ≡ true → legal ≡ true
    by true legal e = e
    by false legal e = absurd cc

-- ---- the line of the list

line-in : (front : List Record) (k n ic pc : ℕ) (x : List ℕ) (back : List Record) → HasLine (interval_text k n ic (mark_in k back)) (list_text (front ++ Header k n ic pc x ∷ back))
unfolding list_text
line-in [] k n ic pc x back = record { front = []; back = list_text back; parts = refl }
line-in (r ∷ front) k n ic pc x back =
    let rest = front ++ Header k n ic pc x ∷ back in
    let line = interval_text k n ic (mark_in k back) in
    let l = line-in front k n ic pc x back in
    record {
      front = record_text r rest ++ l.front;
      back = l.back;
      parts = ap (λ (t : List ℕ). record_text r rest ++ t) l.parts ∙ sym (append_assoc (record_text r rest) l.front (line ++ l.back));
    }

line-of : (k : ℕ) (m : EndMark) (rs : List Record) (is : Closes k m rs) → HasLine (interval_text k is.number is.found.interval.start.ic m) (list_text rs)
line-of k m rs is =
    let first = line-in is.front k is.number is.ic is.pc is.x is.back in
    let all : HasLine (interval_text k is.number is.ic (mark_in k is.back)) (list_text rs) = subst (λ (ys : List Record). HasLine (interval_text k is.number is.ic (mark_in k is.back)) (list_text ys)) (sym is.parts) first in
    let marked : HasLine (interval_text k is.number is.ic m) (list_text rs) = subst (λ (e : EndMark). HasLine (interval_text k is.number is.ic e) (list_text rs)) is.mark_is all in
    subst (λ (n : ℕ). HasLine (interval_text k is.number n m) (list_text rs)) (sym is.found.begins) marked

-- what is answered by the log
list-told : Grammar → FileLaws → (files : Files) (log : List ℕ) (d : Content) (what : Told) → IsContent d → files log ≡ Some (saved_bytes d) → IsAnswer None (Some (ListLine log)) files what → what ≡ list_of d
unfolding WithFile
list-told g laws files log d what is there a =
    let names = names_in (ListLine log) in
    let by : IsByLog names (saved_bytes d) list_of what = by-file (files log) names role.Log 272629760 (saved_bytes d) (λ bytes what. IsByLog names bytes list_of what) what there (laws.limit d is) a in
    by-content g names (saved_bytes d) d list_of what (laws.read.saved d is) by

-- ---- the crash

-- the same by the list as a whole
abbrev HasIts : (c : RawSettings) (i : Program) (input : List ℕ) (hart reason value : ℕ) → List ℕ → Type 0
HasIts c i input hart reason value b =
    let run = run_of c i input b in
    let h = run.harts hart in
    HasEnded hart h.number h.begun (mark h.state.ic reason value) (kept_of c run)

kept-so : (c : RawSettings) (i : Program) (input turns : List ℕ) (k : IsCrash c i input turns) → HasIts c i input k.hart (16 + fault_number k.kind) k.value (k.before ++ k.hart ∷ []) → HasIts c i input k.hart (16 + fault_number k.kind) k.value turns
kept-so c i input turns k has = subst (HasIts c i input k.hart (16 + fault_number k.kind) k.value) (sym k.turns_are) has

shown : Grammar → FileLaws → FaultsAreKept → RecordingsAreReplayed → (r : RecordingLine) (old new : Files) (l : Leaves r old new) → r.settings.format ≡ 2 → (k : IsCrash r.settings l.program l.input l.turns) → ShowsCrash l k
shown g laws faults replays r old new l format k =
    let c = r.settings in
    let i = l.program in
    let run = run_of c i l.input l.turns in
    let d = content_of c (sha256 l.elf) run in
    let content : IsContent d = laws.contents c i l.elf l.input l.turns l.recording in
    let legal : legal_from c i (start c i l.input) (k.before ++ k.hart ∷ []) ≡ true = subst (λ (b : List ℕ). legal_from c i (start c i l.input) b ≡ true) k.turns_are l.recording.legal in
    let low = below k.hart c.harts ((run_of c i l.input k.before).harts k.hart).live (last-live c i (start c i l.input) k.before k.hart legal) in
    let found = faults c i l.input k.before k.hart k.kind k.value (guards c format l.recording.setting) legal k.want in
    let has = kept-so c i l.input l.turns k found in
    let is = closes c (dropped_of c run) k.hart (run.harts k.hart).number (run.harts k.hart).begun (mark_of_crash k) (kept_of c run) content.order low has in
    record {
      number = is.number;
      interval = is.found.interval;
      kept = is.found.is;
      mark_is = is.found.mark_is;
      listed = λ files log log_is what a. record { text = list_text (kept_of c run); told = list-told g laws files log d what content (log_is ∙ l.log) a; has = line-of k.hart (mark_of_crash k) (kept_of c run) is };
      replayed = λ files log elf log_is elf_is what a. replays r old new l k.hart is.number is.found.interval is.found.is files log elf log_is elf_is what a;
    }

another : {P : Type 0} (m : ℕ) → (m ≡ 0) ⊎ (m ≡ 11) → 10 ≡ m → P
another m (inl z) e = absurd (omega (arith, z, e))
another m (inr z) e = absurd (omega (arith, z, e))

ended-so : (e : RunEnd) → 10 ≡ end_status e → e ≡ ends.Fault
ended-so ends.Fault e = refl
ended-so ends.Limit e = another 11 (inr refl) e
ended-so ends.Done e = another 0 (inl refl) e

pub crashes_shown : ReadingsAreUnique → LogsAreContents → SavedHaveTheirLimit → FilesAreRead → OwnAsksAreOrderly → FaultsAreKept → RecordingsAreReplayed → CrashesAreShown
crashes_shown readings contents limit read asks faults replays r old new l format is =
    let c = r.settings in
    let end : end_by (marks_of c (run_of c l.program l.input l.turns)) ≡ ends.Fault = ended-so (end_by (marks_of c (run_of c l.program l.input l.turns))) is in
    let k = is-crash asks c l.program l.input l.turns l.recording.setting l.recording.legal end in
    (k, shown (record { one_reading = readings }) (record { contents = contents; limit = limit; read = read }) faults replays r old new l format k)
