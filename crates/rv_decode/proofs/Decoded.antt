-- A word decodes by the row that it fits.
use Rattle.rv_decode.proofs.Common.{◌≡◌, ℕ, Option, Some, None, refl, ap, All, IsTrue, IsFalse, ◌↔◌, Row, fits, table, row_in, spelled, spelled_by, decoded, kind_by}
use Rattle.rv_decode.proofs.Apart.{table_row, none_fits, none_found}

kind_none : (o : Option Row) → kind_by o ≡ None → o ≡ None
kind_none None e = refl
kind_none (Some r) e = cc

-- no row was found, so nothing is decoded
pub decoded_none : (w : ℕ) → kind_by (row_in table w) ≡ None → decoded w ≡ None
decoded_none w e = ap (λ o. spelled_by o w) (kind_none (row_in table w) e)

row_none : (o : Option Row) (w : ℕ) → spelled_by o w ≡ None → o ≡ None
row_none None w e = refl
row_none (Some r) w e = cc

pub fitting_row : (w : ℕ) → All (λ r. IsTrue (fits r w) → decoded w ≡ Some (spelled r.name r.format w)) table
fitting_row w k d h f = ap (λ o. spelled_by o w) (table_row w k d h f)

pub no_row : (w : ℕ) → ((decoded w ≡ None) ↔ All (λ r. IsFalse (fits r w)) table)
no_row w = ((λ n. none_fits table w (row_none (row_in table w) w n)), (λ a. ap (λ o. spelled_by o w) (none_found table w a)))
