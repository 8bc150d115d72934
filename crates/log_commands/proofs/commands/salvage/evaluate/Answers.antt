use Rattle.log_commands.proofs.Common.{inr}
use Rattle.log_blocks.specs.declared.damage.SalvageError.TheVariants.{File, NothingLeft}
use Rattle.log_commands.proofs.Renewals.{salvaged-told, unsalvaged-told}
use Rattle.log_commands.proofs.commands.salvage.evaluate.Goals as goal

pub returns-in-Ok : goal.returns-in-Ok
returns-in-Ok c = record { gives = λ names. salvaged-told names c.args.origin.now c.in-Ok.new c.in-Ok.ensures.renewed; own = λ before now. tt; kind = tt }

pub returns-in-Err-File : goal.returns-in-Err-File
returns-in-Err-File c = record {
  gives = λ names. inr (unsalvaged-told names c.args.origin.now (File c.in-Err-File.damage) (rw c.in-Err-File.field-0-is at c.in-Err-File.ensures.refused) (λ e. absurd cc));
  own = λ before now. tt;
  kind = tt;
}

pub returns-in-Err-NothingLeft : goal.returns-in-Err-NothingLeft
returns-in-Err-NothingLeft c = record {
  gives = λ names. inr (unsalvaged-told names c.args.origin.now NothingLeft (rw c.in-Err-NothingLeft.field-0-is at c.in-Err-NothingLeft.ensures.refused) (λ e. absurd cc));
  own = λ before now. tt;
  kind = tt;
}
