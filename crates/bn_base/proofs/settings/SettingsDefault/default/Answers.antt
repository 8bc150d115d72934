use Rattle.std.proofs.Common.{refl, sym, subst}
use Rattle.bn_base.specs.Ranges.{default_settings, IsSetting}
use Rattle.bn_base.proofs.Tested.{in_range}
use Rattle.bn_base.proofs.settings.SettingsDefault.default.Goals as goal

pub invariant_of-result : goal.invariant_of-result
unfolding lib.Count.ones
invariant_of-result c = subst IsSetting (sym c.default.ensures) (in_range default_settings refl)
