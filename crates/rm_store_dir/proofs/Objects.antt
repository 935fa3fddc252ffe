-- What a folder tells of its objects.
use Rattle.std.specs.{Prelude.{◌≢◌, IfSome}, Option.{option_map}}
use Rattle.std.proofs.Common.{◌≡◌, ◌∙◌, refl, sym, ap, ℕ, Bool, true, false, List, Option, Some, None, rules}
use Rattle.rm_base.specs.Store.{Held, Both, HasNow, SameBut}
use Rattle.rm_store_dir.specs.DirStore.{is_object, objects_of, KeepsOthers}

both_objects : (R S : Held → Held → Type 0) → ((a b : Held) → R a b → S (objects_of a) (objects_of b)) → (old new : Option Held) → Both R old new → Both S (option_map objects_of old) (option_map objects_of new)
both_objects R S f (Some a) (Some b) h = f a b h
both_objects R S f (Some a) None h = h
both_objects R S f None new h = ap (option_map objects_of) h

-- an object has what its file has
object_has : (name : List ℕ) (files : Held) → is_object name ≡ true → objects_of files name ≡ files name
object_has name files e = rw e refl

-- a name that is no object's has nothing
none_has : (name : List ℕ) (files : Held) → is_object name ≡ false → objects_of files name ≡ None
none_has name files e = rw e refl

stays : (n name : List ℕ) (a b : Held) → KeepsOthers name a b → n ≢ name → (t : Bool) → is_object n ≡ t → objects_of b n ≡ objects_of a n
stays n name a b h other true e = object_has n b e ∙ h n other e ∙ sym (object_has n a e)
stays n name a b h other false e = none_has n b e ∙ sym (none_has n a e)

pub now_has : (name : List ℕ) (bytes : Option (List ℕ)) (old new : Option Held) → is_object name ≡ true → Both (HasNow name bytes) old new → Both (HasNow name bytes) (option_map objects_of old) (option_map objects_of new)
now_has name bytes old new is h = both_objects (HasNow name bytes) (HasNow name bytes) (λ a b has. object_has name b is ∙ has) old new h

pub others_stay : (name : List ℕ) (old new : Option Held) → Both (KeepsOthers name) old new → Both (SameBut name) (option_map objects_of old) (option_map objects_of new)
others_stay name old new h = both_objects (KeepsOthers name) (SameBut name) (λ a b keeps n other. stays n name a b keeps other (is_object n) refl) old new h

pub none_gone : (name : List ℕ) (files : Option Held) → is_object name ≡ false → Both (HasNow name None) (option_map objects_of files) (option_map objects_of files)
none_gone name (Some a) not = none_has name a not
none_gone name None not = refl

pub found_none : (name : List ℕ) (files : Option Held) → is_object name ≡ false → IfSome (option_map objects_of files) (λ h. h name ≡ None)
found_none name (Some a) not = none_has name a not
found_none name None not = search rules

pub found_some : (name : List ℕ) (found : Option (List ℕ)) (files : Option Held) → is_object name ≡ true → IfSome files (λ h. h name ≡ found) → IfSome (option_map objects_of files) (λ h. h name ≡ found)
found_some name found (Some a) is h = object_has name a is ∙ h
found_some name found None is h = h
