use Rattle.joint_replay.proofs.Common.{◌≡◌, ◌-◌, ◌^◌, word_at, known_from, words_from}
use Rattle.joint_replay.proofs.replay_memory.ReplayMemory.known_from.Given as goal

-- none of the words before is known
abbrev pub invariant-loop-number : goal.invariant-loop-number
invariant-loop-number l = known_from l.from l.self.words ≡ words_from (word_at l.self-inside.words.pages) l.number (2 ^ 30 - l.number)
