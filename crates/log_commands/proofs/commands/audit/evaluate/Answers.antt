use Rattle.log_commands.proofs.Common.{Ok, Err, Answers, audited, IsByLog, pair_of, IsMade, Agreed, ◌≡◌, ℕ, List, ◌∙◌, ap, inl, inr, Result, Program, FileNames, audit_by, shown, told_by, Makes, GivesTo, JointReading, Refusal}
use Rattle.log_commands.proofs.Answering.{passed-on, unpaired-so, paired-so}
use Rattle.bn_base.specs.declared.settings.RawSettings.{RawSettings}
use Rattle.run_model.specs.declared.start.Start.{Start}
use Rattle.log_commands.proofs.Sealed.{sealed-log}
use Rattle.log_commands.proofs.commands.audit.evaluate.Goals as goal

-- What the audit of a log and its program tells.
-- with a recording of these parts it is what is compared of the pair
same-start : (log book input : List ℕ) (r : JointReading) (s : Start) → s.image ≡ r.image → s.settings ≡ r.log.head.settings → s.digest ≡ r.log.head.digest → s.input.items ≡ input
    → audit_by s.settings s.image s.digest s.input.items book log ≡ audit_by r.log.head.settings r.image r.log.head.digest input book log
same-start log book input r s i c d n =
    ap (λ (x : RawSettings). audit_by x s.image s.digest s.input.items book log) c ∙ ap (λ (x : Program). audit_by r.log.head.settings x s.digest s.input.items book log) i
    ∙ ap (λ (x : List ℕ). audit_by r.log.head.settings r.image x s.input.items book log) d ∙ ap (λ (x : List ℕ). audit_by r.log.head.settings r.image r.log.head.digest x book log) n

compared-gives : (log book input : List ℕ) (r : JointReading) (s : Start) (result : Result (Unit {0}) Refusal) → s.image ≡ r.image → s.settings ≡ r.log.head.settings → s.digest ≡ r.log.head.digest → s.input.items ≡ input
    → Makes (λ x. x ≡ audit_by s.settings s.image s.digest s.input.items book log) result → (names : FileNames) → GivesTo shown names (λ what. what ≡ audited names log book input r.log r.image) result
compared-gives log book input r s (Ok u) i c d n m names = ap (λ (x : Result (Unit {0}) Refusal). told_by shown names x) (m ∙ same-start log book input r s i c d n)
compared-gives log book input r s (Err e) i c d n (inl memory) names = inl memory
compared-gives log book input r s (Err e) i c d n (inr m) names = inr (ap (λ (x : Result (Unit {0}) Refusal). told_by shown names x) (m ∙ same-start log book input r s i c d n))

pub returns-in_err-pair : goal.returns-in_err-pair
returns-in_err-pair c =
    passed-on (Answers IsMade (λ names. IsByLog names c.args.log.now (pair_of (audited names c.args.log.now c.args.book.now c.args.input.items) names c.args.elf.now))) _ c.from_residual.result c.from_residual.ensures.1
    (unpaired-so IsMade c.args.log.now c.args.elf.now (λ names. audited names c.args.log.now c.args.book.now c.args.input.items) _ c.in_err-pair.ensures.is c.in_err-pair.ensures.own)

pub returns-in_err-compare : goal.returns-in_err-compare
returns-in_err-compare c =
    passed-on (Answers IsMade (λ names. IsByLog names c.args.log.now (pair_of (audited names c.args.log.now c.args.book.now c.args.input.items) names c.args.elf.now))) _ c.from_residual-in_err-compare.result c.from_residual-in_err-compare.ensures.1
    (paired-so IsMade c.args.log.now c.args.elf.now c.in_ok-pair.pair (λ names. audited names c.args.log.now c.args.book.now c.args.input.items) (Err _) c.in_ok-pair.ensures.is
    (record {
      gives = λ names. compared-gives c.args.log.now c.args.book.now c.args.input.items c.in_ok-pair.pair c.start_of-start.result (Err _)
          c.start_of-start.ensures.image c.start_of-start.ensures.settings c.start_of-start.ensures.digest c.start_of-start.ensures.input c.in_err-compare.ensures.is names;
      own = c.in_err-compare.ensures.own;
      kind = tt;
    }))

pub returns : goal.returns
returns c =
    paired-so IsMade c.args.log.now c.args.elf.now c.in_ok-pair.pair (λ names. audited names c.args.log.now c.args.book.now c.args.input.items) (Ok Agreed) c.in_ok-pair.ensures.is
    (record {
      gives = λ names. compared-gives c.args.log.now c.args.book.now c.args.input.items c.in_ok-pair.pair c.start_of-start.result (Ok tt)
          c.start_of-start.ensures.image c.start_of-start.ensures.settings c.start_of-start.ensures.digest c.start_of-start.ensures.input c.in_ok-compare.ensures.is names;
      own = λ before now. tt;
      kind = tt;
    })

pub compare-requires : goal.compare-requires
compare-requires c = sealed-log c.args.log.now c.args.elf.now c.in_ok-pair.pair c.in_ok-pair.ensures.is c.files_number_their_version.ensures
