-- What a shadow notes, as plain data.
use Rattle.std.specs.Prelude.{◌≡◌, ℕ, Bool, List, map, Vec}
use Rattle.std.specs.Global.{Global}
use Rattle.vector_time.specs.declared.times.Times.{Times}
use Rattle.race_log.specs.declared.shadow.Shadow.{Shadow}
use Rattle.race_log.specs.declared.slot.Slot.{Slot}
use Rattle.race_log.specs.declared.epochs.Epoch.{Epoch}
use Rattle.race_log.specs.Points.{Point}
use Rattle.race_log.specs.Represents.{RepresentsAccesses, harts_of, lasting_of, next_turn}

-- what a shadow notes: how many harts there are, which were live at each sweep, and the lowest turn of the next access.
-- Then the times of each hart, the slots of each page, and the epochs that they name
pub record Noted : Type 0 where
  pub harts : ℕ
  pub lasting : ℕ
  pub turn : ℕ
  pub times : List Times
  pub pages : List (List Slot)
  pub epochs : List Epoch

-- what this shadow notes
abbrev pub noted : Shadow → Noted
noted s = record {
  harts = harts_of s;
  lasting = lasting_of s;
  turn = next_turn s;
  times = s.times.items;
  pages = map (λ (page : Vec Slot Global). page.items) s.words.pages.items;
  epochs = s.words.epochs.table.items;
}

-- shadows that note the same represent the same runs
abbrev pub NotesDecide : Type 0
NotesDecide = (one other : Shadow) → noted one ≡ noted other → (run : List Point) (live : ℕ → Bool) → RepresentsAccesses run live one → RepresentsAccesses run live other
