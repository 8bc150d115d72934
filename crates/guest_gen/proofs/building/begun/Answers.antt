use Rattle.le_numbers.specs.Numbers.{number_bytes}
use Rattle.guest_gen.specs.File.{headers, file_header, identification}
use Rattle.guest_gen.proofs.building.begun.Goals as goal

pub returns : goal.returns
unfolding headers file_header identification number_bytes
returns c = c.from_slice.ensures.items
