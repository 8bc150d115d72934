-- What an instruction accesses, as it is named elsewhere.
use Rattle.race_report.specs.declared.touch.Touch.{Touch}

abbrev pub Touched : Type 0
Touched = Touch
