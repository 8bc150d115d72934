-- How asks are served: with format 1 as without a guard, and whatever the records are.
use Rattle.run_model.proofs.Common.{◌≡◌, ℕ, Bool, true, false, List, ◌++◌, ◌==◌, ◌+◌, refl, ◌∙◌, ap, Program, Ask, Want, RawSettings, FormatOneIsUnguarded, Run, serve, served_if, is_orderly, is_guarded, ask_at, Record, serve_call, call_of, RecordsDecideNothing}
use Rattle.bn_base.specs.declared.row.Row.{Row}
use Rattle.run_model.specs.Rows.{rows_if, quiet_part, ask_part, turn_rows, turn_rows_in}

pub unguarded : (c : RawSettings) (run : Run) (k : ℕ) (want : Want) → c.format ≡ 1 → is_guarded c run k want ≡ false
unguarded c run k want e = rw e refl

served_unguarded : (o : Bool) (c : RawSettings) (i : Program) (run : Run) (k : ℕ) (ask : Ask) → c.format ≡ 1 → (served_if o c i run k ask).guarded ≡ false
served_unguarded true c i run k ask e = unguarded c run k ask.want e
served_unguarded false c i run k ask e = refl

serve_unguarded : (c : RawSettings) (i : Program) (run : Run) (k : ℕ) (ask : Ask) → c.format ≡ 1 → (serve c i run k ask).guarded ≡ false
unfolding serve
serve_unguarded c i run k ask e = served_unguarded (is_orderly c i (run.harts k) ask) c i run k ask e

both_if : (b : Bool) (xs ys : List Row) → rows_if b xs ++ rows_if b ys ≡ rows_if b (xs ++ ys)
both_if true xs ys = refl
both_if false xs ys = refl

rows_unguarded : (c : RawSettings) (i : Program) (run : Run) (k n : ℕ) → c.format ≡ 1 → turn_rows_in c i run k n ≡ rows_if ((run.harts k).number == n) (turn_rows c i run k)
rows_unguarded c i run k n e =
    ap (λ (g : Bool). rows_if ((run.harts k).number == n) (quiet_part c i run k) ++ rows_if (elim g as (λ b. ℕ) [ true ↦ (run.harts k).number + 1 | false ↦ (run.harts k).number ] == n) (ask_part c i run k)) (unguarded c run k (ask_at c i (run.harts k)).want e)
    ∙ both_if ((run.harts k).number == n) (quiet_part c i run k) (ask_part c i run k)

pub format_one : FormatOneIsUnguarded
format_one = record { asks = unguarded; serves = serve_unguarded; rows = rows_unguarded }

-- ---- the records decide nothing

call_by : (g : Bool) (c : RawSettings) (i : Program) (run : Run) (stream : List Record) (k : ℕ) (ask : Ask)
    → let call = call_of i run.machine ask.want in let other = serve_call c (record run { stream = stream }) k ask g call in let one = serve_call c run k ask g call in
    (other.reply ≡ one.reply) × (other.guarded ≡ one.guarded) × (other.run ≡ record one.run { stream = other.run.stream })
call_by true c i run stream k ask = (refl, refl, refl)
call_by false c i run stream k ask = (refl, refl, refl)

serve_by : (o : Bool) (c : RawSettings) (i : Program) (run : Run) (stream : List Record) (k : ℕ) (ask : Ask)
    → let other = served_if o c i (record run { stream = stream }) k ask in let one = served_if o c i run k ask in
    (other.reply ≡ one.reply) × (other.guarded ≡ one.guarded) × (other.run ≡ record one.run { stream = other.run.stream })
serve_by true c i run stream k ask = call_by (is_guarded c run k ask.want) c i run stream k ask
serve_by false c i run stream k ask = (refl, refl, refl)

pub alike : RecordsDecideNothing
unfolding serve
alike c i run stream k ask = serve_by (is_orderly c i (run.harts k) ask) c i run stream k ask
