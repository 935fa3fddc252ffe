-- The objects of a saved site come and go, and the names of logs, pieces and sets are none of theirs.
use Rattle.std.specs.Str.{bytes_eq}
use Rattle.std.proofs.Common.{◌≡◌, ◌∙◌, ◌+◌, ◌++◌, ◌||◌, ℕ, List, [], ◌∷◌, Option, Some, None, Bool, true, false, refl, sym, subst, map, inl, inr}
use Rattle.std.proofs.lemmas.{Bool.{cases_Bool, false≢true}, Slice.Eq.{bytes_eq-Decides}}
use Rattle.rm_base.specs.Store.{Held}
use Rattle.rm_catalog.specs.declared.record.PartEntry.{PartEntry}
use Rattle.rm_commit.{specs.Names.{after_all, is_named, itself, name_of, nothing}, proofs.Named.{unnamed-stays}}
use Rattle.rm_catalog_typed.specs.{Ledger.{Ledger}, TypedCatalog.{Saved}}
use Rattle.rm_evidence.specs.Names.{site_name}
use Rattle.rm_machine.specs.{Effect.{Effect, LeavesObjects}, Saved.{saved_names}, Saving.{SitePart, object_of, with_ids}, Step.{and_drops}}
use Rattle.rm_machine.{specs.declared.state.State.{State}, proofs.{Kept.{StandOn}, Dropping.{IsNoSite, no-site}}}

-- one list of changes after another
pub after-both : {X : Type 0} (name : X → List ℕ) (value : X → Option (List ℕ)) (xs ys : List X) (n : List ℕ) (o : Option (List ℕ))
    → after_all name value (xs ++ ys) n o ≡ after_all name value ys n (after_all name value xs n o)
after-both name value [] ys n o = refl
after-both name value (x ∷ xs) ys n o = after-both name value xs ys n _

unnamed-parts : (parts : List PartEntry) (name : List ℕ) → IsNoSite name → is_named itself (map (λ p. site_name p.id) parts) name ≡ false
unnamed-parts [] name other = refl
unnamed-parts (p ∷ ps) name other = elim (cases_Bool (bytes_eq name (site_name p.id))) [
  | inl same ↦ absurd (other p.id ((bytes_eq-Decides name (site_name p.id)).0 same))
  | inr apart ↦ rw apart (unnamed-parts ps name other)
]

pub unnamed-saved : (saved : Option Saved) (name : List ℕ) → IsNoSite name → is_named itself (saved_names saved) name ≡ false
unnamed-saved None name other = refl
unnamed-saved (Some site) name other = unnamed-parts site.parts name other

-- those that a save puts
pub unnamed-site : (id : ℕ) (parts : List SitePart) (name : List ℕ) → IsNoSite name → is_named name_of (with_ids object_of id parts) name ≡ false
unnamed-site id [] name other = refl
unnamed-site id (p ∷ ps) name other = elim (cases_Bool (bytes_eq name (object_of id p).name)) [
  | inl same ↦ absurd (other id ((bytes_eq-Decides name (object_of id p).name).0 same))
  | inr apart ↦ rw apart (unnamed-site (id + 1) ps name other)
]

-- what is named by two lists and not by the second is named by the first
named-left : (xs ys : List (List ℕ)) (name : List ℕ) → is_named itself ys name ≡ false → is_named itself (xs ++ ys) name ≡ true → is_named itself xs name ≡ true
named-left [] ys name other named = absurd (false≢true (sym other ∙ named))
named-left (x ∷ xs) ys name other named = elim (cases_Bool (bytes_eq name x)) [
  | inl same ↦ rw same refl
  | inr apart ↦ rw apart (named-left xs ys name other (subst (λ (b : Bool). (b || is_named itself (xs ++ ys) name) ≡ true) apart named))
]

-- so what is no part's goes by the effect alone
pub named-first : (o : Option State) (e : Effect) (name : List ℕ) → IsNoSite name → is_named itself (and_drops o e).removes name ≡ true → is_named itself e.removes name ≡ true
named-first None e name other named = named
named-first (Some s) e name other named = named-left e.removes (saved_names s.catalog.saved) name (unnamed-saved s.catalog.saved name other) named

-- the objects that the effect alone leaves
module _ (s : State) (e : Effect) (before after : Held) (leaves : LeavesObjects (and_drops (Some s) e) before after) where
  abbrev pub left_by : Held
  left_by = λ name. after_all itself nothing e.removes name (leaves.put name)

  pub leaves-first : LeavesObjects e before left_by
  leaves-first = record { put = leaves.put; puts = leaves.puts; removes = λ name. refl }

  pub stays-beyond : (name : List ℕ) → IsNoSite name → after name ≡ left_by name
  stays-beyond name other =
      leaves.removes name
      ∙ after-both itself nothing e.removes (saved_names s.catalog.saved) name (leaves.put name)
      ∙ unnamed-stays itself nothing (saved_names s.catalog.saved) name (left_by name) (unnamed-saved s.catalog.saved name other)

  pub stand-beyond : (touched : List (List ℕ)) (l : Ledger) → StandOn left_by after touched touched l l
  stand-beyond touched l name bytes names names' (inl given) = inl given
  stand-beyond touched l name bytes names names' (inr is) = inr (stays-beyond name (no-site l name names) ∙ is)
