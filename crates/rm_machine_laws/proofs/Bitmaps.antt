-- What bitmaps tell later and after switches, and what the history says of a block that they do not mark.
use Rattle.std.proofs.Common.{◌≡◌, ◌⊎◌, ◌<◌, ◌≤◌, ◌∙◌, inl, inr, ℕ, Bool, List, [], ◌∷◌, Option, Some, None, IfSome, Contains, length, refl, sym, arith}
use Rattle.std.proofs.lemmas.Bool.{cases_lt}
use Rattle.rm_base.specs.declared.block.{Change.{Change}, Row.{Row}}
use Rattle.rm_history.specs.{State.{Made, Untouched, state}, Tree.{HasParentsBelow, owner, reset_of}, World.{creation_of}}
use Rattle.rm_history.{specs.declared.world.World.{World}, proofs.{Owners.{owner-here}, States.{concerns-parts, state-held}}}
use Rattle.rm_track.specs.{Bits.{IsMarked}, Bitmaps.{Tracked, candidates_at, switch_at, tracked_at}}
use Rattle.rm_track.specs.Told.{HasChange, IsChanged, LieBelow, Tell, TellChanges, starts}
use Rattle.rm_track.proofs.Telling.{candidates-found, candidates-start, same-tells, switched-tell}
use Rattle.rm_machine.specs.Tracked.{switch_all}

-- what bitmaps tell they tell later
pub tell-later : (i : ℕ) (h : List Change) (now later : ℕ) (ts : List Tracked) → now ≤ later → Tell i h now ts → Tell i h later ts
tell-later i h now later ts order tell f = by (tracked_at ts f) (tell f)
  where
    by : (o : Option Tracked) → IfSome o (TellChanges (HasChange i h f) now) → IfSome o (TellChanges (HasChange i h f) later)
    by None is = tt
    by (Some t) is = same-tells (HasChange i h f) (HasChange i h f) now later t (λ b scn. ((λ c. c), (λ c. c))) order is

-- after switches above all changes they are told
pub tell-switch_all : (i now : ℕ) (h : List Change) (fs : List ℕ) (ts : List Tracked) → LieBelow i h now → Tell i h now ts → Tell i h now (switch_all now fs ts)
tell-switch_all i now h [] ts below tell = tell
tell-switch_all i now h (f ∷ fs) ts below tell = tell-switch_all i now h fs (switch_at ts f now) below (switched-tell i now f now h ts (omega arith) below tell)

-- the version of a block without a change by incarnation i from `low` on is below each SCN from there on
version-below : (w : World) (h : List Change) (i f low from at : ℕ) (r : Row) → HasParentsBelow w.tree → 0 < i → reset_of w.tree i ≤ low → creation_of w f < low → low ≤ from
    → ¬ IsChanged (HasChange i h f) low at r.block → Made w h i at f r ⊎ Untouched w h i at f r → r.version < from
version-below w h i f low from at r parents there begun created most none (inr new) = omega (arith, new.version, created, most)
version-below w h i f low from at r parents there begun created most none (inl made) = elim (cases_lt made.change.scn from) [
  | inl less ↦ omega (arith, made.version, less)
  | inr high ↦
      let c : Change = made.change in
      let parts = concerns-parts w i at f r.block c made.concerns in
      let own : owner w.tree i c.scn ≡ i = owner-here w.tree parents i c.scn there (omega (arith, begun, most, high)) in
      absurd (none (c.scn, omega (arith, most, high), parts.below, record { change = c; made = made.is; inc = sym parts.owned ∙ own; file = parts.file; block = parts.block; scn = refl }))
]

-- where the current bitmap starts, a block that is no candidate has a version below `from`
pub not-wanted : (w : World) (h : List Change) (i now f from b : ℕ) (ts : List Tracked) (t : Tracked) (marks : List Bool) → HasParentsBelow w.tree → 0 < i → ((low : ℕ) → Contains (starts t) low → (reset_of w.tree i ≤ low) × (creation_of w f < low))
    → Tell i h now ts → tracked_at ts f ≡ Some t → candidates_at ts f from ≡ Some marks → b < length t.marks → ¬ IsMarked marks b → (state w h i t.start f b).version < from
not-wanted w h i now f from b ts t marks parents there kept tell found is inside unmarked =
    let start = candidates-start i now f from h ts t marks tell found is in
    let at = kept start.0 start.1.is in
    let both = candidates-found i now f from start.0 h ts t marks tell found is start.1 b inside in
    version-below w h i f start.0 from t.start (state w h i t.start f b) parents there at.0 at.1 start.1.most (λ changed. unmarked (both.1 changed)) (state-held w h i t.start f b).held
