-- What a chain of tests says that names the first cause to refuse bytes.
use Rattle.log_file.proofs.Common.{◌≡◌, ◌≢◌, Bool, true, false, not, cond, List, ℕ, Result, Ok, Option, Some, None, refl, ◌∙◌, arith, bytes_eq, bytes_eq-Decides, BadSetting, RawSettings, first_bad, checked, checked_by, FileError, BadHead, OutOfMemory, setting_fault}

pub same_some : {A : Type 0} (x y : A) → ◌≡◌ {A = Option A} (Some x) (Some y) → x ≡ y
same_some x y e = cc

pub none_some : {A P : Type 0} (x : A) → ◌≡◌ {A = Option A} None (Some x) → P
none_some x e = absurd cc

-- a test that names no cause has passed, and so have those after it
pub passed : (b : Bool) (e : FileError) (r : Option FileError) → cond (not b) (Some e) r ≡ None → (b ≡ true) × (r ≡ None)
passed true e r h = (refl, h)
passed false e r h = absurd cc

pub under : (b : Bool) (e : FileError) (r : Option FileError) → cond b (Some e) r ≡ None → (b ≡ false) × (r ≡ None)
under true e r h = absurd cc
under false e r h = (refl, h)

pub settings_passed : (o : Option BadSetting) (r : Option FileError) → setting_fault o r ≡ None → (o ≡ None) × (r ≡ None)
settings_passed (Some p) r h = absurd cc
settings_passed None r h = (refl, h)

pub same_bytes : (xs ys : List ℕ) → bytes_eq xs ys ≡ true → xs ≡ ys
same_bytes xs ys h = (bytes_eq-Decides xs ys).0 h

same_settings : (raw s : RawSettings) → ◌≡◌ {A = Result RawSettings BadSetting} (Ok raw) (Ok s) → s ≡ raw
same_settings raw s e = cc

told_by : (o : Option BadSetting) (raw s : RawSettings) → first_bad raw ≡ o → ◌≡◌ {A = Result RawSettings BadSetting} (checked_by o raw) (Ok s) → (s ≡ raw) × (first_bad raw ≡ None)
told_by None raw s e known = (same_settings raw s known, e)
told_by (Some bad) raw s e known = absurd cc

-- settings that are checked are those that were given, and none of them is bad
pub told : (raw s : RawSettings) → checked raw ≡ Ok s → (s ≡ raw) × (first_bad raw ≡ None)
told raw s known = told_by (first_bad raw) raw s refl known

-- the first of some causes isn't `OutOfMemory`, if none is
pub chosen : (b : Bool) (x e : FileError) (later : Option FileError) → x ≢ OutOfMemory → (later ≡ Some e → e ≢ OutOfMemory) → cond b (Some x) later ≡ Some e → e ≢ OutOfMemory
chosen true x e later other after h = λ is. other (same_some x e h ∙ is)
chosen false x e later other after h = after h

pub setting_named : (o : Option BadSetting) (e : FileError) (later : Option FileError) → (later ≡ Some e → e ≢ OutOfMemory) → setting_fault o later ≡ Some e → e ≢ OutOfMemory
setting_named None e later rest h = rest h
setting_named (Some bad) e later rest h = λ is. grind (arith, same_some (BadHead bad.field bad.value) e h ∙ is)
