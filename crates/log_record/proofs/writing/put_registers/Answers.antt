use Rattle.log_record.proofs.Common.{◌≡◌, ◌++◌, ◌∙◌, List, ℕ, ◌<◌, ◌^◌, arith, drop, take, length, length-drop, ap, subst, flat_map, AllByRecursion, take_all, number_bytes}
use Rattle.log_record.proofs.Words.{are_registers}
use Rattle.log_record.proofs.writing.put_registers.Goals as goal

-- the part of the contents after x0
others : (contents x : List ℕ) → contents ≡ x → length x ≡ 32 → take 31 (drop 1 contents) ≡ drop 1 x
others contents x e count = take_all 31 (drop 1 contents) (omega (arith, length-drop 1 contents, ap length e)) ∙ ap (drop 1) e

pub returns-clause-appended : goal.returns-clause-appended
returns-clause-appended c =
    let same = others c.contents-contents.result c.args.x.now c.contents-contents.ensures.value c.contents-contents.ensures.count in
    c.put_words.ensures.appended ∙ ap (λ (ws : List ℕ). c.args.bytes.now ++ flat_map (number_bytes 4) ws) same

pub returns-clause-are : goal.returns-clause-are
returns-clause-are c =
    let same = others c.contents-contents.result c.args.x.now c.contents-contents.ensures.value c.contents-contents.ensures.count in
    are_registers c.args.x.now c.contents-contents.ensures.count c.contents-contents.ensures.zero (subst (AllByRecursion (λ (w : ℕ). w < 2 ^ 32)) same c.put_words.ensures.are)
