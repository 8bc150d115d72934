-- What several files of proofs/ cite of other crates and of specs/. They import it from here, by one line.
pub use Rattle.std.proofs.Common.{All, AllPairs, Bool, IsFalse, IsTrue, List, None, Option, Some, [], ap, arith, bit_and, cond, eq-eqb, eqb, eqb-true, false, inl, inr, length, lit<, nat_lt, negsuc, not, pos, pow_pos, refl, rules, shr-shr, slice_index_or, subst, suc, sym, true, zero, ℕ, ◌%◌, ◌&&◌, ◌*◌, ◌+◌, ◌-◌, ◌/◌, ◌<◌, ◌==◌, ◌^◌, ◌↔◌, ◌∙◌, ◌∷◌, ◌≡◌, ◌≢◌, ◌⊎◌}
pub use Rattle.std.proofs.Math.Nat.{mod-eq_of_lt}
pub use Rattle.std.proofs.lemmas.Bool.{false≢true}
pub use Rattle.std.proofs.lemmas.Bool.Decides.{Decides-and, Decides-eqb, nat_tests}
pub use Rattle.std.proofs.lemmas.Nat.{and_assoc, and_block, and_comm, and_le_l, and_mask, mod-pow-add, mod_below, same_from_place, shr_below, shr_split}
pub use Rattle.rv_decode.specs.Encode.{encoded, fixed_of, format_of, laid, laid_b, laid_j, laid_s}
pub use Rattle.rv_decode.specs.Fields.{fits_fields, kind_by, passes, row_by}
pub use Rattle.rv_decode.specs.Table.{Instruction, NoWordFitsBoth, Row, decoded, field, fits, imm_b, imm_i, imm_j, imm_s, imm_u, is_one, row, row_in, signed, spelled, spelled_by, table}
pub use Rattle.rv_decode.specs.declared.format.Format.{Format}
pub use Rattle.rv_decode.specs.declared.name.Name.{Name}
