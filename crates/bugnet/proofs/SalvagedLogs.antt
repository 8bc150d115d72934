-- What is salvaged of a recording's damaged file says an end of it, and is replayed so.
use Rattle.bugnet.proofs.Common.{◌+◌, ℕ, List, ◌∷◌, length, nat_lt, Some, ◌∙◌, subst, refl, ReplayLine, pieces_of, FilesAreRead, file_bytes2, Content, IsEndOf, run_of, SalvagedFilesSuffice, Part, SaysEnd, Headline, fits, of_false}
use Rattle.log_blocks.specs.Fields.{head_in, dropped_in}
use Rattle.log_blocks.specs.File.{HasBlocks, dropped_before}
use Rattle.log_blocks.specs.Pieces.{Piece}
use Rattle.bugnet.specs.SalvagedLogs.{SalvagesRun, SalvagedSayEnds, SalvagedAreReplayed}

-- the laws of salvaged logs and their files
pub record SalvageLaws : Type 0 where
  pub suffice : SalvagedFilesSuffice
  pub read : FilesAreRead

-- its records are the run's last ones
pub is-end : SalvageLaws → (p : Part) (bytes : List ℕ) (d : Content) → SalvagesRun p bytes d → IsEndOf (run_of p.settings p.program p.input p.turns).stream d.records
is-end laws p bytes d s =
    let place = 136 + length s.salvaged.rest in
    let held : HasBlocks (head_in bytes) (dropped_before (dropped_in bytes) (pieces_of (s.first ∷ s.back))) place (pieces_of (s.first ∷ s.back)) d =
    subst (λ (ps : List Piece). HasBlocks (head_in bytes) (dropped_before (dropped_in bytes) ps) place ps d) s.pieces s.salvaged.blocks in
    (laws.suffice p.settings p.program p.elf p.input p.turns s.recording s.front s.first s.back s.blocks (head_in bytes) (dropped_in bytes) place d held).0

-- the log says an end of the recording
abbrev pub salvaged-end : SalvageLaws → (p : Part) (bytes : List ℕ) (d : Content) → SalvagesRun p bytes d → SaysEnd p.settings p.program p.elf p.input p.turns (file_bytes2 d)
salvaged-end laws p bytes d s = record {
  log = d;
  reads = laws.read.second d s.salvaged.blocks.content;
  head = s.salvaged.blocks.head_is ∙ s.head;
  end = is-end laws p bytes d s;
}

pub say_ends : SalvagedFilesSuffice → FilesAreRead → SalvagedSayEnds
say_ends suffice read = salvaged-end (record { suffice = suffice; read = read })

-- so its replay is the recorded run's
pub salvaged_replayed : SalvagedFilesSuffice → FilesAreRead → Headline → SalvagedAreReplayed
salvaged_replayed suffice read law p bytes d s v kept small files log elf log_is elf_is what is =
    of_false (nat_lt 67108864 (length p.elf)) _ _ (fits 67108864 (length p.elf) small)
    (law (Some (ReplayLine log elf p.hart p.number)) files p v (record {
      log_name = log;
      elf_name = elf;
      command = refl;
      program = elf_is;
      recording = s.recording;
      bytes = file_bytes2 d;
      log = log_is;
      says = salvaged-end (record { suffice = suffice; read = read }) p bytes d s;
      kept = kept;
    }) what is)
