use Rattle.log_blocks.proofs.Common.{◌≡◌, ℕ, ◌%◌, ◌^◌, List, [], ◌∷◌, ◌++◌, refl, sym, ap, subst, ◌∙◌, flat_map, AllByRecursion, flat_map-append, Record, bytes_of, Fits, BeginNoOther, Block, gathered, records_in, pieces_of, AreSmall, SalvagedAreAnEnd}
use Rattle.log_blocks.proofs.Ends.{last_blocks}
use Rattle.log_blocks.proofs.Recovered.{one_list}
use Rattle.log_blocks.proofs.Sealed.{TagsTell, small}
use Rattle.log_blocks.proofs.laws.salvaged_blocks_are_an_end.Goals as goal

-- What is salvaged of a log's file is an end of the log.

gathered_of : (bs : List Block) → gathered (pieces_of bs) ≡ flat_map bytes_of (records_in bs)
gathered_of [] = refl
gathered_of (b ∷ bs) = ap (λ (t : List ℕ). flat_map bytes_of b.records ++ t) (gathered_of bs) ∙ sym (flat_map-append bytes_of b.records (records_in bs))

all_small : TagsTell → (format : ℕ) (rs : List Record) → AllByRecursion (Fits format) rs → AreSmall rs
all_small tell format [] fit = tt
all_small tell format (r ∷ rs) fit = (small tell r fit.0.fields, all_small tell format rs fit.1)

later : (format : ℕ) (xs ys : List Record) → AllByRecursion (Fits format) (xs ++ ys) → AllByRecursion (Fits format) ys
later format [] ys fit = fit
later format (x ∷ xs) ys fit = later format xs ys fit.1

salvaged_is_an_end : TagsTell → BeginNoOther → SalvagedAreAnEnd
salvaged_is_an_end tell alone log is front b back cut head dropped start c has =
    let l = last_blocks log.dropped log.records front b back (all_small tell log.head.settings.format log.records is.fit) cut in
    let fit : AllByRecursion (Fits log.head.settings.format) (records_in (b ∷ back)) =
    later log.head.settings.format (records_in front) (records_in (b ∷ back)) (subst (λ (rs : List Record). AllByRecursion (Fits log.head.settings.format) rs) l.0 is.fit) in
    let same : c.records ≡ records_in (b ∷ back) =
    one_list alone c.head.settings.format log.head.settings.format c.records (records_in (b ∷ back)) has.content.fit fit (sym has.parts ∙ gathered_of (b ∷ back)) in
    (l.0 ∙ ap (λ (rs : List Record). records_in front ++ rs) (sym same), has.dropped_is ∙ ap (λ (n : ℕ). n % 2 ^ 64) l.1)

pub returns : goal.returns
returns c = salvaged_is_an_end c.tags_tell_sizes.ensures.tag c.no_record_begins_another.ensures
