-- What stays true of a history where the database grows, and where the history does.
use Rattle.std.proofs.Common.{◌≡◌, ◌<◌, ◌≤◌, ◌-◌, ◌∙◌, inl, inr, ◌&&◌, nat_lt, ℕ, zero, suc, List, [], ◌∷◌, ◌++◌, Option, Some, None, Bool, true, false, cond, refl, ap, sym, subst, arith, eqb, All, Contains, slice_get}
use Rattle.std.proofs.lemmas.List.{Elements.{All-contains, Contains-get_or, Contains-push_cases}, Quantifiers.{all_pairs_push}}
use Rattle.rm_base.specs.declared.block.Change.{Change}
use Rattle.rm_history.specs.{Tree.{IsThere, with_end}, Threads.{applies}, World.{file_of, with_tree, with_file, with_switch}}
use Rattle.rm_history.specs.{History.{IsChange, IsHistory, SamePlace}, State.{concerns, later, latest, row_of, state}}
use Rattle.rm_history.specs.declared.world.{Datafile.{Datafile}, Switch.{Switch}, World.{World}}
use Rattle.rm_history.proofs.Ends.{owner-with_end, reset_of-with_end, IsThere-with_end}
use Rattle.rm_history.proofs.Enabled.{IsEnabled-with_switch, IsEnabled-with_tree}

-- the database with another end of an incarnation
abbrev pub world-with_end : World → ℕ → ℕ → World
world-with_end w j end = with_tree w (with_end w.tree j end)

-- the database with a datafile more
abbrev pub world-with_file : World → Datafile → World
world-with_file w d = with_file w d

slice_get-push : (xs : List Datafile) (y x : Datafile) (k : ℕ) → slice_get xs k ≡ Some x → slice_get (xs ++ y ∷ []) k ≡ Some x
slice_get-push [] y x k is = absurd (cc)
slice_get-push (z ∷ zs) y x zero is = is
slice_get-push (z ∷ zs) y x (suc k) is = slice_get-push zs y x k is

within-none : (none : Bool) (o p : Option Datafile) (x : Datafile) → (o ≡ Some x → p ≡ Some x) → cond none None o ≡ Some x → cond none None p ≡ Some x
within-none true o p x step is = is
within-none false o p x step is = step is

-- a datafile keeps its number
pub file_of-with_file : (w : World) (new d : Datafile) (f : ℕ) → file_of w f ≡ Some d → file_of (world-with_file w new) f ≡ Some d
file_of-with_file w new d f is =
    within-none (eqb f 0) (slice_get w.files (f - 1)) (slice_get (w.files ++ new ∷ []) (f - 1)) d (slice_get-push w.files new d (f - 1)) is

pub IsChange-with_end : (w : World) (j end : ℕ) (c : Change) → IsThere w.tree j → IsChange w c → IsChange (world-with_end w j end) c
IsChange-with_end w j end c there is = record {
  thread = IsEnabled-with_tree w (with_end w.tree j end) c.inc c.scn c.thread (λ g low. owner-with_end w.tree j end c.inc g there) is.thread;
  there = IsThere-with_end w.tree j end c.inc is.there;
  begun = subst (λ r. r ≤ c.scn) (sym (reset_of-with_end w.tree j end c.inc there)) is.begun;
  datafile = is.datafile;
  is = is.is;
  created = is.created;
  owned = owner-with_end w.tree j end c.inc is.datafile.creation there ∙ is.owned;
  block = is.block;
}

pub IsChange-with_file : (w : World) (new : Datafile) (c : Change) → IsChange w c → IsChange (world-with_file w new) c
IsChange-with_file w new c is = record {
  thread = record { number = is.thread.number; on = is.thread.on };
  there = is.there;
  begun = is.begun;
  datafile = is.datafile;
  is = file_of-with_file w new is.datafile c.file is.is;
  created = is.created;
  owned = is.owned;
  block = is.block;
}

-- a change stays one where a switch more does not apply at it
pub IsChange-with_switch : (w : World) (x : Switch) (c : Change) → applies w.tree c.inc c.scn c.thread x ≡ false → IsChange w c → IsChange (with_switch w x) c
IsChange-with_switch w x c other is = record {
  thread = IsEnabled-with_switch w x c.inc c.scn c.thread other is.thread;
  there = is.there;
  begun = is.begun;
  datafile = is.datafile;
  is = is.is;
  created = is.created;
  owned = is.owned;
  block = is.block;
}

-- a history stays one where an incarnation has another end
pub IsHistory-with_end : (w : World) (j end : ℕ) (h : List Change) → IsThere w.tree j → IsHistory w h → IsHistory (world-with_end w j end) h
IsHistory-with_end w j end h there is = record {
  changes = λ c held. IsChange-with_end w j end c there (is.changes c held);
  apart = is.apart;
}

-- and where there is a datafile more
pub IsHistory-with_file : (w : World) (new : Datafile) (h : List Change) → IsHistory w h → IsHistory (world-with_file w new) h
IsHistory-with_file w new h is = record {
  changes = λ c held. IsChange-with_file w new c (is.changes c held);
  apart = is.apart;
}

-- and where a thread is switched at none of its changes
pub IsHistory-with_switch : (w : World) (x : Switch) (h : List Change) → ((c : Change) → Contains h c → applies w.tree c.inc c.scn c.thread x ≡ false) → IsHistory w h → IsHistory (with_switch w x) h
IsHistory-with_switch w x h other is = record {
  changes = λ c held. IsChange-with_switch w x c (other c held) (is.changes c held);
  apart = is.apart;
}

-- a history and a change at a place of its own
pub IsHistory-push : (w : World) (h : List Change) (c : Change) → IsHistory w h → IsChange w c → ((d : Change) → Contains h d → ¬ SamePlace d c) → IsHistory w (h ++ c ∷ [])
IsHistory-push w h c is new alone = record {
  changes = λ d held. elim (Contains-push_cases h c d held) [
    | inl old ↦ is.changes d old
    | inr same ↦ subst (IsChange w) same new
  ];
  apart = all_pairs_push (λ c d. ¬ SamePlace c d) h c is.apart (λ k d inside. alone _ (Contains-get_or h k d inside));
}

-- a change above all others has a place of its own
pub IsHistory-push_above : (w : World) (h : List Change) (c : Change) → IsHistory w h → IsChange w c → All (λ d. d.scn < c.scn) h → IsHistory w (h ++ c ∷ [])
IsHistory-push_above w h c is new above =
    IsHistory-push w h c is new (λ d held same. let less : d.scn < c.scn = All-contains (λ d. d.scn < c.scn) h d above held in let met = same.scn in absurd (omega (arith, less, met)))

pub latest-same : (p q : Change → Bool) → ((c : Change) → p c ≡ q c) → (h : List Change) → latest p h ≡ latest q h
latest-same p q same [] = refl
latest-same p q same (c ∷ cs) =
    ap (λ b. cond b (Some (later c (latest p cs))) (latest p cs)) (same c)
    ∙ ap (λ o. cond (q c) (Some (later c o)) o) (latest-same p q same cs)

-- another end of an incarnation changes the state of no block
pub state-with_end : (w : World) (j end : ℕ) (h : List Change) (i s f b : ℕ) → IsThere w.tree j → state (world-with_end w j end) h i s f b ≡ state w h i s f b
state-with_end w j end h i s f b there =
    ap (row_of w f b) (latest-same (concerns (world-with_end w j end) i s f b) (concerns w i s f b)
    (λ c. ap (λ o. eqb c.file f && eqb c.block b && nat_lt c.scn s && eqb o c.inc) (owner-with_end w.tree j end i c.scn there)) h)

latest-push_other : (p : Change → Bool) (h : List Change) (c : Change) → p c ≡ false → latest p (h ++ c ∷ []) ≡ latest p h
latest-push_other p [] c fails = ap (λ b. cond b (Some c) None) fails
latest-push_other p (d ∷ ds) c fails = ap (λ o. cond (p d) (Some (later d o)) o) (latest-push_other p ds c fails)

-- a change that doesn't concern a block leaves its state
pub state-push_other : (w : World) (h : List Change) (c : Change) (i s f b : ℕ) → concerns w i s f b c ≡ false → state w (h ++ c ∷ []) i s f b ≡ state w h i s f b
state-push_other w h c i s f b fails =
    ap (row_of w f b) (latest-push_other (concerns w i s f b) h c fails)
