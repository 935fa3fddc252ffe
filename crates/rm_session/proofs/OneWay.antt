-- What runs is loaded in one way.
use Rattle.std.specs.Option.{option_map}
use Rattle.std.proofs.Common.{◌≡◌, List, ◌+◌, ◌∙◌, ◌&&◌, not, ℕ, Option, Some, None, Bool, true, false, cond, ap, sym, subst, arith, zero, suc, [], ◌∷◌, refl, length, slice_get, slice_index_or}
use Rattle.std.proofs.lemmas.Option.{slice_get_within}
use Rattle.rm_base.specs.Store.{Held}
use Rattle.rm_blocks.specs.File.{File}
use Rattle.rm_catalog.specs.declared.record.HeadEntry.{HeadEntry}
use Rattle.rm_history.specs.declared.world.Datafile.{Datafile}
use Rattle.rm_catalog_typed.{specs.TypedCatalog.{TypedCatalog, Saved}, proofs.Lookups.{item-at}}
use Rattle.rm_redo.specs.Logs.{Logs}
use Rattle.rm_machine.specs.Loading.{AreLoadedLogs, IsHeadPoint, IsLoaded, IsLoadedBy, IsLoadedFile, IsLoadedOf, IsLoadedPoint, IsTheOne, file_in, online_of}
use Rattle.rm_machine.specs.{Mount.{mount_point}, Saved.{IsGoodFile, IsGoodLog}, Sound.{StandsAt}, Tracked.{first_tracker}}
use Rattle.rm_machine.specs.{State.{has_lost}, declared.state.{Instance.{Instance}, State.{State}}}
use Rattle.rm_session.proofs.Goods.{file-one, log-one}

-- where no two are so, there is one, or none
the-one : {X : Type 0} (Is : X → Type 0) (o p : Option X) → ((x y : X) → Is x → Is y → x ≡ y) → IsTheOne Is o → IsTheOne Is p → o ≡ p
the-one Is None None one first second = refl
the-one Is None (Some y) one first second = absurd (first y second)
the-one Is (Some x) None one first second = absurd (second x first)
the-one Is (Some x) (Some y) one first second = ap Some (one x y first second)

-- lists that are as long and have the same at each place
items-same : {X : Type 0} (xs ys : List X) → length xs ≡ length ys → ((k : ℕ) (x y : X) → slice_get xs k ≡ Some x → slice_get ys k ≡ Some y → x ≡ y) → xs ≡ ys
items-same [] [] many same = refl
items-same [] (y ∷ ys) many same = absurd (omega (arith, many))
items-same (x ∷ xs) [] many same = absurd (omega (arith, many))
items-same (x ∷ xs) (y ∷ ys) many same =
    λ i. same zero x y refl refl i ∷ items-same xs ys (omega (arith, many)) (λ k a b first second. same (suc k) a b first second) i

-- a list of places, read with none for a default
index-of : {X : Type 0} (xs : List (Option X)) (k : ℕ) (o : Option X) → slice_get xs k ≡ Some o → slice_index_or xs k None ≡ o
index-of [] k o is = absurd cc
index-of (x ∷ xs) zero o is = (let same : Some x ≡ Some o = is in cc)
index-of (x ∷ xs) (suc k) o is = index-of xs k o is

-- the database of a catalog, where this runs
abbrev running : TypedCatalog → Instance → State
running c a = record { catalog = c; instance = a }

-- the head tells a point of what stands in place alone
head-moves : (c : TypedCatalog) (head : HeadEntry) (a b : Instance) → a.place ≡ b.place → (at : ℕ) → IsHeadPoint (running c b) head at → IsHeadPoint (running c a) head at
head-moves c head a b same at is = record {
  inc = is.inc;
  scn = is.scn;
  point = record { low = is.point.low; high = is.point.high; stands = λ k d file here. coe 1 0 (i. StandsAt (same i) c.ledger.base.current at k) (is.point.stands k d file here) };
}

point-moves : (c : TypedCatalog) (head : HeadEntry) (a b : Instance) → a.place ≡ b.place → (o : Option ℕ) → IsTheOne (IsHeadPoint (running c b) head) o → IsTheOne (IsHeadPoint (running c a) head) o
point-moves c head a b same None none = λ at is. none at (head-moves c head b a (sym same) at is)
point-moves c head a b same (Some at) is = head-moves c head a b same at is

module _ (held : Held) (c : TypedCatalog) (site : Saved) where
  file-same : (k : ℕ) (d : Datafile) (x y : Option File) → IsLoadedFile held c.ledger site (k + 1) d x → IsLoadedFile held c.ledger site (k + 1) d y → x ≡ y
  file-same k d x y first second =
      first.is ∙ ap (option_map file_in) (the-one (IsGoodFile held c.ledger site (k + 1) d) first.part second.part (file-one held c.ledger site (k + 1) d) first.good second.good) ∙ sym second.is

  logs-same : (x y : Logs) → AreLoadedLogs held c.ledger site x → AreLoadedLogs held c.ledger site y → x ≡ y
  logs-same x y first second =
      let parts : first.parts ≡ second.parts = items-same first.parts second.parts (first.many ∙ sym second.many) (λ k o p here there. the-one (IsGoodLog held c.ledger site (k + 1)) o p (log-one held c.ledger site (k + 1)) (first.good k o here) (second.good k p there)) in
      first.are ∙ ap (online_of c.ledger) parts ∙ sym second.are

  module _ (a b : Instance) (first : IsLoadedOf held (running c a) site) (second : IsLoadedOf held (running c b) site) where
    place-same : a.place ≡ b.place
    place-same = items-same a.place b.place (first.many ∙ sym second.many) (λ k x y here there.
        let d = item-at c.ledger.files k (omega (arith, slice_get_within a.place k x here, first.many)) in
        sym (index-of a.place k x here) ∙ file-same k d.0 _ _ (first.place k d.0 d.1) (second.place k d.0 d.1) ∙ index-of b.place k y there)

    both-logs : a.logs ≡ b.logs
    both-logs = logs-same a.logs b.logs first.logs second.logs

    mode-same : a.is_open ≡ b.is_open
    mode-same = first.is_open ∙ ap (λ (x : Logs). site.head.opened && not (has_lost x)) both-logs ∙ sym second.is_open

    tracker-same : a.tracker ≡ b.tracker
    tracker-same = first.tracker ∙ ap (λ (opened : Bool). first_tracker opened c.ledger) mode-same ∙ sym second.tracker

    -- the point of a site that was open, and of one that was mounted
    point-by : (opened : Bool) → IsLoadedPoint (running c a) site.head opened a.is_open → IsLoadedPoint (running c b) site.head opened b.is_open → a.point ≡ b.point
    point-by true here there =
        here ∙ (λ i. cond (mode-same i) None (mount_point (running c (record a { place = place-same i })))) ∙ sym there
    point-by false here there =
        the-one (IsHeadPoint (running c a) site.head) a.point b.point (λ x y one two. sym one.scn ∙ two.scn) here (point-moves c site.head a b place-same b.point there)

    damaged-same : a.damaged ≡ b.damaged
    damaged-same = first.damaged ∙ sym second.damaged

    pub site-same : a ≡ b
    site-same = λ i. record { is_open = mode-same i; point = point-by site.head.opened first.point second.point i; place = place-same i; logs = both-logs i; damaged = damaged-same i; tracker = tracker-same i }

one-by : (held : Held) (c : TypedCatalog) (a b : Instance) (o : Option Saved) → IsLoadedBy held (running c a) o → IsLoadedBy held (running c b) o → a ≡ b
one-by held c a b None first second = first ∙ sym second
one-by held c a b (Some site) first second = site-same held c site a b first second

pub one-way : (held : Held) (s t : State) → t.catalog ≡ s.catalog → IsLoaded held s → IsLoaded held t → t.instance ≡ s.instance
one-way held s t same first second =
    one-by held s.catalog t.instance s.instance s.catalog.saved (subst (λ c. IsLoaded held (running c t.instance)) same second) first
