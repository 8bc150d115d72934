use Rattle.log_commands.proofs.Common.{elf_said}
use Rattle.log_commands.proofs.lines.push_elf.Goals as goal

pub returns-in-TooMany : goal.returns-in-TooMany
unfolding elf_said
returns-in-TooMany c = rw c.in-TooMany.is c.push_counted.ensures

pub returns-in-Outside : goal.returns-in-Outside
unfolding elf_said
returns-in-Outside c = rw c.in-Outside.is c.push_counted-in-Outside.ensures

pub returns-in-SegmentsTouch : goal.returns-in-SegmentsTouch
unfolding elf_said
returns-in-SegmentsTouch c = rw c.in-SegmentsTouch.is c.push_pair-in-SegmentsTouch.ensures

pub returns-in-NoSegment : goal.returns-in-NoSegment
unfolding elf_said
returns-in-NoSegment c = rw c.in-NoSegment.is c.push_str-in-NoSegment.ensures.ok

pub returns-in-EntryOutside : goal.returns-in-EntryOutside
unfolding elf_said
returns-in-EntryOutside c = rw c.in-EntryOutside.is c.push_word.ensures

pub returns-in-OutOfMemory : goal.returns-in-OutOfMemory
unfolding elf_said
returns-in-OutOfMemory c = rw c.in-OutOfMemory.is c.push_str-in-OutOfMemory.ensures.ok
