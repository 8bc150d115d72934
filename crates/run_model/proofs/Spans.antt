-- The words of an access are addresses.
use Rattle.run_model.proofs.Common.{arith, subst, ◌≡◌, ℕ, ◌*◌, ◌^◌, ◌≤◌, length, Option, Some, None, Want, Load, Store, LoadReserved, StoreConditional, Amo, System, Cut, Faulted, Reply, Plan, Span, span_of, AreWordsIn, AreAddresses}
use Rattle.rv_meaning.specs.declared.asks.Reply.TheVariants as replies
use Rattle.bus_memory.specs.Contents.{Contents}

inside : (c : Contents) (o : Option Span) → 4 * length c.words ≤ 2 ^ 32 → AreWordsIn c o → AreAddresses o
inside c None size h = tt
inside c (Some s) size h = (h.0, omega (arith, h.1, size))

-- what holds of the words of an SC that succeeds, holds of those with any reply
any_reply : (call : Option Plan) (want : Want) (reply : Reply) → AreAddresses (span_of call want replies.ScOk) → AreAddresses (span_of call want reply)
any_reply (Some plan) want reply h = h
any_reply None (Load a width signed rd) reply h = h
any_reply None (Store a width v) reply h = h
any_reply None (LoadReserved a rd) reply h = h
any_reply None (Amo a op rd v) reply h = h
any_reply None (System number args) reply h = tt
any_reply None Cut reply h = tt
any_reply None (Faulted kind value) reply h = tt
any_reply None (StoreConditional a rd v) replies.ScOk h = h
any_reply None (StoreConditional a rd v) (replies.Word w) h = tt
any_reply None (StoreConditional a rd v) replies.Stored h = tt
any_reply None (StoreConditional a rd v) replies.ScFailed h = tt
any_reply None (StoreConditional a rd v) (replies.Answer w) h = tt
any_reply None (StoreConditional a rd v) replies.Went h = tt
any_reply None (StoreConditional a rd v) replies.Over h = tt

pub accessed_addresses : (c : Contents) (memory : ℕ) (call : Option Plan) (want : Want) (words : Option Span) → words ≡ span_of call want replies.ScOk → 4 * length c.words ≡ memory → memory ≤ 2 ^ 26
    → AreWordsIn c words → (reply : Reply) → AreAddresses (span_of call want reply)
accessed_addresses c memory call want words are size high h reply =
    let within : AreWordsIn c (span_of call want replies.ScOk) = subst (λ (o : Option Span). AreWordsIn c o) are h in
    any_reply call want reply (inside c (span_of call want replies.ScOk) (omega (arith, size, high)) within)
