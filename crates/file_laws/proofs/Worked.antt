-- A small recording, and a row that no hart could make.
use Rattle.file_laws.proofs.Common.{◌≡◌, ℕ, zero, suc, ◌&&◌, nat_lt, Bool, true, false, List, [], ◌∷◌, Some, Ok, refl, arith, list_all, IsSetting, default_settings, step, after_all, late_edge, end_break, broken, order_break, broken_by, after_header, kept, are_orderly, IsLawful, kept_of, dropped_of, has_finished, serve}
use Rattle.le_numbers.specs.Numbers.{number_at, number_bytes, AreBytes}
use Rattle.elf_loader.specs.Headers.{table}
use Rattle.elf_loader.specs.Loaded as loaded
use Rattle.elf_loader.specs.Loaded.{header_refusal, segment_refusal, refusal, image_of}
use Rattle.elf_loader.specs.Segments.{segments, file_words}
use Rattle.run_model.specs.Examples.{an_exit, program_of}
use Rattle.file_laws.specs.Given.{IsRecording}
use Rattle.file_laws.specs.Examples.{file_of_words, an_exit_begun, a_stray_store, after_a_stray_store}

defaults : IsSetting default_settings
unfolding lib.Count.ones
defaults = record {
  harts_low = omega arith;
  harts_high = omega arith;
  interval_low = omega arith;
  interval_high = omega arith;
  limit_low = omega arith;
  limit_high = omega arith;
  log_size_low = omega arith;
  log_size_high = omega arith;
  memory_low = omega arith;
  memory_high = omega arith;
  memory_pages = refl;
  sets_low = omega arith;
  sets_high = omega arith;
  sets_power = refl;
  ways_low = omega arith;
  ways_high = omega arith;
  line_low = omega arith;
  line_high = omega arith;
  line_power = refl;
  format_low = omega arith;
  format_high = omega arith;
  second_sets = refl;
  second_ways = refl;
}

are_bytes : (bytes : List ℕ) → list_all (λ b. nat_lt b 256) bytes ≡ true → AreBytes bytes
are_bytes [] e i = omega arith
are_bytes (b ∷ bs) e zero = grind arith
are_bytes (b ∷ bs) e (suc i) = are_bytes bs (later (nat_lt b 256) (list_all (λ b. nat_lt b 256) bs) e) i
  where
    later : (x y : Bool) → (x && y) ≡ true → y ≡ true
    later true y f = f
    later false y f = cc

exit_bytes : list_all (λ b. nat_lt b 256) (file_of_words an_exit) ≡ true
unfolding number_bytes
exit_bytes = refl

exit_loaded : image_of (file_of_words an_exit) an_exit.settings ≡ Ok (program_of an_exit)
unfolding image_of refusal header_refusal segment_refusal loaded.program_of table segments file_words number_at number_bytes
exit_loaded = refl

pub an_exit_is_one : IsRecording an_exit.settings (program_of an_exit) (file_of_words an_exit) an_exit.input an_exit.turns
unfolding serve
an_exit_is_one = record { setting = defaults; bytes = are_bytes (file_of_words an_exit) exit_bytes; loaded = exit_loaded; legal = refl; over = refl }

pub stray_is_lawful : IsLawful an_exit.settings (program_of an_exit) an_exit_begun (a_stray_store ∷ [])
unfolding serve
stray_is_lawful = (refl, refl, refl, tt)

pub stray_is_not_orderly : are_orderly an_exit.settings (program_of an_exit) an_exit_begun (a_stray_store ∷ []) ≡ false
stray_is_not_orderly = refl

pub stray_is_over : has_finished an_exit.settings after_a_stray_store ≡ true
unfolding serve
stray_is_over = refl

pub stray_is_broken : broken_by an_exit.settings (dropped_of an_exit.settings after_a_stray_store) (kept_of an_exit.settings after_a_stray_store) ≡ Some (order_break 146 6)
unfolding serve kept number_bytes step after_all late_edge end_break broken after_header
stray_is_broken = refl
