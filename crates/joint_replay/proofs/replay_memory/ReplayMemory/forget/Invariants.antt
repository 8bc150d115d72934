use Rattle.std.proofs.Common.{◌≡◌}
use Rattle.joint_replay.proofs.WordLists.{Without}
use Rattle.joint_replay.proofs.replay_memory.ReplayMemory.forget.Given as goal

-- the words from the first one's on are unknown, and the others as they were
abbrev pub invariant-loop-number : goal.invariant-loop-number
invariant-loop-number l = Without l.first l.number l.initial.self-inside.words l.self-inside.words × (l.self-inside.end ≡ l.initial.self-inside.end) × (l.self-inside.spare ≡ l.initial.self-inside.spare)
