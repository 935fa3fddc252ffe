-- A standby in its store: which one it is, and how a new one takes the place of it.
use Rattle.std.specs.{Prelude.{ℕ, ◌≡◌, ◌≢◌, ◌+◌, true, Option, Some, None, IfSome, List}, Option.{option_map_or}}
use Rattle.rm_base.specs.Store.{Both, Held, SameBut}
use Rattle.rm_piece.specs.{SetSpelling.{set_spelling}, Sets.{IsSet}, declared.set.Set.{Set}}
use Rattle.rm_standby.specs.Standby.{is_standby}
use Rattle.rm_standby_store.specs.Names.{IsStandby, standby_name}

-- that is the standby that is found, where the store tells what it holds
abbrev pub Finds : Option Held → Option (ℕ × Set) → Type 0
Finds to found = IfSome to (λ held. IsStandby held found)

-- the number of the next standby: 1 for the first one
abbrev pub next_number : Option (ℕ × Set) → ℕ
next_number found = option_map_or (λ x. x.0 + 1) found 1

-- the standby of the store then: the new one, under that number, or else the one of before
abbrev pub found_after : Option (ℕ × Set) → Option Set → Option (ℕ × Set)
found_after found new = option_map_or (λ a. Some (next_number found, a)) new found

-- the name is none of the standby of before
abbrev pub IsNoneOf : Option (ℕ × Set) → List ℕ → Type 0
IsNoneOf found n = IfSome found (λ x. n ≢ standby_name x.0)

-- nothing stands under this name, where there is one
abbrev pub IsGone : Option (List ℕ) → Held → Held → Type 0
IsGone name before after = IfSome name (λ n. after n ≡ None)

-- each other name has what it had
abbrev pub OthersAre : Option (List ℕ) → Held → Held → Type 0
OthersAre name before after = (n : List ℕ) → IfSome name (λ m. n ≢ m) → after n ≡ before n

-- the new standby stands under the next number, that of before is gone, and all else stays
pub record Replaced (found : Option (ℕ × Set)) (new : Set) (before after : Held) : Type 0 where
  pub stands : after (standby_name (next_number found)) ≡ Some (set_spelling new)
  pub gone : IfSome found (λ x. after (standby_name x.0) ≡ None)
  pub others : (n : List ℕ) → n ≢ standby_name (next_number found) → IsNoneOf found n → after n ≡ before n

-- it was stopped: before the new one stood, and its name may have any bytes; or behind that, and the name of the one of before may
pub data StoppedIn (found : Option (ℕ × Set)) (new : Set) (before after : Held) : Type 0 where
  in_put : SameBut (standby_name (next_number found)) before after → StoppedIn found new before after
  in_remove : (number : ℕ) (old : Set) → found ≡ Some (number, old) → after (standby_name (number + 1)) ≡ Some (set_spelling new)
      → ((n : List ℕ) → n ≢ standby_name (number + 1) → n ≢ standby_name number → after n ≡ before n) → StoppedIn found new before after

-- no bytes of a put that was torn spell another standby
pub record TornSpellsNone (found : Option (ℕ × Set)) (new : Set) (after : Held) : Type 0 where
  pub none : (a : Set) → IsSet a → is_standby a ≡ true → after (standby_name (next_number found)) ≡ Some (set_spelling a) → a ≡ new

-- by what the store tells
abbrev pub Replaces : Option (ℕ × Set) → Set → Option Held → Option Held → Type 0
Replaces found new to to' = Both (Replaced found new) to to'

abbrev pub Stops : Option (ℕ × Set) → Set → Option Held → Option Held → Type 0
Stops found new to to' = Both (StoppedIn found new) to to'
