-- What the mishaps of objects hand out, by what the store has under the names.
use Rattle.std.proofs.Common.{◌≡◌, ◌<◌, ◌∙◌, ℕ, List, [], ◌∷◌, Option, Some, None, false, nat_le, cond, is_none, is_some, IfSome, refl, ap, sym, subst, arith, length, take}
use Rattle.std.proofs.lemmas.Bool.Decides.{nat_tests}
use Rattle.rm_base.specs.{Store.{Held}, declared.refusal.{Refusal.TheVariants.{Rm12}, Unknown.TheVariants.{Byte}}}
use Rattle.rm_report.specs.declared.line.Line.TheVariants as line
use Rattle.rm_lang_statement.specs.declared.command.Command.TheVariants.{Cut, Damage, Remove, Rename}
use Rattle.rm_machine.specs.Mishaps.{cut_by, damage_by, damaged, removal, remove_by, rename_by, renaming, replacement}
use Rattle.rm_machine.specs.{Effect.{done, refused}, Hands.{Hands}, declared.{handed.Handed.{Handed}, state.State.{State}}}
use Rattle.rm_machine.proofs.Handing.{hands-by}

-- what a store that tells has under a name is what it gave
abbrev pub HasThere : Option Held → List ℕ → Option (List ℕ) → Type 0
HasThere held name stands = (objects : Held) → held ≡ Some objects → objects name ≡ stands

-- by another name that is this one
pub named : (held : Option Held) (by name : List ℕ) (stands : Option (List ℕ)) → by ≡ name → IfSome held (λ h. h by ≡ stands) → HasThere held name stands
named None by name stands is found objects tells = absurd (cc)
named (Some h) by name stands is found objects tells =
    let same : h ≡ objects = cc in
    subst (λ n. objects n ≡ stands) is (subst (λ (k : Held). k by ≡ stands) same found)

pub none-there : (held : Option Held) (by name : List ℕ) (o : Option (List ℕ)) → by ≡ name → IfSome held (λ h. h by ≡ o) → is_some o ≡ false → HasThere held name None
none-there held by name None is found none = named held by name None is found
none-there held by name (Some bytes) is found none = absurd (cc)

pub some-there : (held : Option Held) (by name : List ℕ) (o : Option (List ℕ)) → by ≡ name → IfSome held (λ h. h by ≡ o) → is_none o ≡ false → (bytes : List ℕ) × HasThere held name (Some bytes)
some-there held by name None is found some = absurd (cc)
some-there held by name (Some bytes) is found some = (bytes, named held by name (Some bytes) is found)

module _ (held : Option Held) (s : State) (name bytes : List ℕ) (x : Handed) (there : HasThere held name (Some bytes)) where
  pub remove-hands : x.lines ≡ line.Removed ∷ [] → x.objects ≡ [] → x.removes ≡ name ∷ [] → Hands held s (Remove name) x s
  remove-hands lines objects removes =
      hands-by held s (Remove name) x s (line.Removed ∷ []) (removal name) s (λ h tells. sym (ap (remove_by s name) (there h tells))) lines objects removes refl

  pub damage-hands : (at : ℕ) → at < length bytes → x.lines ≡ line.Damaged ∷ [] → x.objects ≡ record { name = name; bytes = damaged bytes at } ∷ [] → x.removes ≡ [] → Hands held s (Damage name at) x s
  damage-hands at inside lines objects removes =
      let e = replacement name (damaged bytes at) in
      let there_is : nat_le (length bytes) at ≡ false = grind (arith, nat_tests) in
      hands-by held s (Damage name at) x s (line.Damaged ∷ []) e s
      (λ h tells. sym (ap (damage_by s name at) (there h tells) ∙ ap (λ b. cond b (refused (Rm12 (Byte at name))) (done (line.Damaged ∷ []) e s)) there_is)) lines objects removes refl

  pub cut-hands : (to : ℕ) → to < length bytes → x.lines ≡ line.Cut ∷ [] → x.objects ≡ record { name = name; bytes = take to bytes } ∷ [] → x.removes ≡ [] → Hands held s (Cut name to) x s
  cut-hands to inside lines objects removes =
      let e = replacement name (take to bytes) in
      let fewer : nat_le (length bytes) to ≡ false = grind (arith, nat_tests) in
      hands-by held s (Cut name to) x s (line.Cut ∷ []) e s
      (λ h tells. sym (ap (cut_by s name to) (there h tells) ∙ ap (λ b. cond b (refused (Rm12 (Byte to name))) (done (line.Cut ∷ []) e s)) fewer)) lines objects removes refl

  pub rename-hands : (new : List ℕ) → HasThere held new None → x.lines ≡ line.Renamed ∷ [] → x.objects ≡ record { name = new; bytes = bytes } ∷ [] → x.removes ≡ name ∷ [] → Hands held s (Rename name new) x s
  rename-hands new free lines objects removes =
      hands-by held s (Rename name new) x s (line.Renamed ∷ []) (renaming name new bytes) s
      (λ h tells. sym (ap (λ o. rename_by s name new o (h new)) (there h tells) ∙ ap (rename_by s name new (Some bytes)) (free h tells))) lines objects removes refl
