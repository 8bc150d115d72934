use Rattle.elf_loader.proofs.Common.{rules, List, subst, IsPermutation, ProgramHeader, IsNonDecreasingBy-from_sort_by_key}
use Rattle.elf_loader.proofs.Order.{sorted-by_address}
use Rattle.elf_loader.proofs.loading.by_address.Goals as goal

pub returns : goal.returns
returns c =
    let up = IsNonDecreasingBy-from_sort_by_key (λ h. h.vaddr) _ c.in_ok-sort_by_key.ensures.sorted (λ a r q k. search rules) in
    let moved : IsPermutation c.args.headers.now c.sort_by_key.new.self.items = subst (λ (hs : List ProgramHeader). IsPermutation hs c.sort_by_key.new.self.items) c.in_ok-sorted.ensures.items c.in_ok-sort_by_key.ensures.permutation in
    sorted-by_address _ _ c.requires.segments c.requires.apart moved up
