-- The names of standbys in their store, and which of them is the standby.
use Rattle.std.specs.{Prelude.{ℕ, ◌≡◌, ◌≢◌, ◌<◌, ◌≤◌, ◌++◌, true, Option, Some, None, List, Contains, codes}, Fmt.{decimal}}
use Rattle.rm_base.specs.Store.{Held}
use Rattle.rm_piece.specs.{SetSpelling.{set_spelling}, Sets.{IsSet}, declared.set.Set.{Set}}
use Rattle.rm_standby.specs.Standby.{is_standby}

-- the name of standby k
abbrev pub standby_name : ℕ → List ℕ
standby_name k = codes "standby_" ++ decimal k

-- a standby may have this number
abbrev pub IsStandbyNumber : ℕ → Type 0
IsStandbyNumber k = (1 ≤ k) × (k ≤ 4294967295)

-- the name is that of standby k
pub record IsNumbered (name : List ℕ) (k : ℕ) : Type 0 where
  pub number : IsStandbyNumber k
  pub is : name ≡ standby_name k

-- the set that the object of a name spells; None where nothing stands there, or bytes of no valid set
abbrev pub SpellsSet : Held → List ℕ → Option Set → Type 0
SpellsSet held name None = (s : Set) → IsSet s → held name ≢ Some (set_spelling s)
SpellsSet held name (Some s) = IsSet s × (held name ≡ Some (set_spelling s))

-- the object of its name spells standby k
pub record StandsAs (held : Held) (k : ℕ) (s : Set) : Type 0 where
  pub number : IsStandbyNumber k
  pub spelled : SpellsSet held (standby_name k) (Some s)
  pub standby : is_standby s ≡ true

-- the standby of a store is the one of the greatest number
abbrev pub IsStandby : Held → Option (ℕ × Set) → Type 0
IsStandby held None = (k : ℕ) (s : Set) → ¬ StandsAs held k s
IsStandby held (Some x) = StandsAs held x.0 x.1 × ((k : ℕ) (s : Set) → x.0 < k → ¬ StandsAs held k s)

-- The search, name by name

-- none was found, or one of a lower number
abbrev pub IsBelow : Option (ℕ × Set) → ℕ → Type 0
IsBelow None k = Unit {0}
IsBelow (Some x) k = x.0 < k

-- the standby of the greatest number among those of these names
abbrev pub IsAmong : Held → List (List ℕ) → Option (ℕ × Set) → Type 0
IsAmong held names None = (k : ℕ) (s : Set) → Contains names (standby_name k) → ¬ StandsAs held k s
IsAmong held names (Some x) = StandsAs held x.0 x.1 × ((k : ℕ) (s : Set) → x.0 < k → Contains names (standby_name k) → ¬ StandsAs held k s)
