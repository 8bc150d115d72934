-- What holds of demonstrations, by its name.
use Rattle.std.specs.Prelude.{◌≡◌, ℕ, Ok}
use Rattle.elf_loader.specs.Loaded.{image_of, program_of}
use Rattle.guest_gen.specs.declared.kind.Kind.{Kind}
use Rattle.guest_gen.specs.File.{guest_bytes}
use Rattle.joint_laws.specs.Recordings.{IsRecorded}
use Rattle.demo_run.specs.Demonstration.{demo, demo_settings}

-- each generated program file is loaded with these settings
abbrev pub GuestsAreLoaded : Type 0
GuestsAreLoaded = (seed : ℕ) (kind : Kind) → image_of (guest_bytes seed kind) demo_settings ≡ Ok (program_of (guest_bytes seed kind) demo_settings)

-- what is recorded is a recording, so all laws of recordings hold of it
abbrev pub DemonstrationsAreRecordings : Type 0
DemonstrationsAreRecordings = (seed : ℕ) → IsRecorded (demo seed)
