-- What a set holds of the states at its address it holds after a step.
use Rattle.std.specs.Option.{option_map_or}
use Rattle.std.proofs.Common.{◌≡◌, ◌<◌, ◌≤◌, ◌-◌, ◌∙◌, ◌&&◌, ◌==◌, inl, inr, nat_le, nat_lt, ℕ, List, [], Option, Some, None, Bool, true, refl, ap, sym, subst, arith, length, AllPairs, Contains}
use Rattle.std.proofs.lemmas.{Bool.{and_parts, eqb-true, leb-true, ltb-true}, Option.{slice_get_within}, List.Elements.{All-contains}}
use Rattle.rm_base.{specs.declared.{block.{Change.{Change}, Row.{Row}}, kinds.Kind.TheVariants.{Level1}}, proofs.Lists.{filter_from}}
use Rattle.rm_base.proofs.Standing.{each-in}
use Rattle.rm_history.specs.{Agrees.{IsRow as IsStateAfter}, Artefacts.{high_of}, History.{IsHistory}, State.{state, states}}
use Rattle.rm_history.specs.{Tree.{IsThere, end_of, owner}, World.{blocks_of, creation_of, exists, file_of}}
use Rattle.rm_history.{specs.declared.world.{Datafile.{Datafile}, World.{World}}, proofs.BlockRows.{row-read, row-there}}
use Rattle.rm_history.proofs.{Highs.{high-bound, high-least}, KnownStates.{version-range}, Worlds.{file-there}}
use Rattle.rm_catalog_typed.{specs.LedgerFacts.{AreIncarnations}, proofs.Trees.{own-at_end}}
use Rattle.rm_piece.specs.{Level1s.{AreRead}, Rows.{from_on}, Sets.{IsMember}, Valid.{IsBefore, IsPiece, IsRow}}
use Rattle.rm_piece.{specs.declared.{piece.Piece.{Piece}, set.{Set.{Set}, SetFile.{SetFile}}}, proofs.Picked.{picked_agrees}}
use Rattle.rm_piece.proofs.PickedStates.{begin, picked-all, picked-begin, still-picked}
use Rattle.rm_standby.specs.Standby.{IsTaken}
use Rattle.rm_lang_statement.specs.declared.command.Command.{Command}
use Rattle.rm_machine.specs.{Damage.{without_damaged}, Effect.{Artefact, a_piece}, Honest.{IsHonest}, Laws.{IsMomentOf}}
use Rattle.rm_machine.specs.{Machine.{IsSoundMachine, IsTrueArtefact, Machine, PieceEndsWithin}, Rest.{Rest, Wakes, at_rest, catalog_in}}
use Rattle.rm_machine.specs.{Saving.{IsSavedAs}, Step.{IsStatement, names_in}, State.{tree, world}, declared.state.State.{State}}
use Rattle.rm_machine_laws.specs.{Moments.{IsMomentIn}, Saves.{IsEnded}, Stopped.{IsLeft, Stopped}}
use Rattle.rm_standby_laws.{specs.Lasting.{HoldsIn, HoldsOf, IsHeld, RestsHeld, StaysHeld}, proofs.{Ended.{ended-either}, Growing.{Grows}}}
use Rattle.rm_standby_laws.proofs.Steps.{IsAfter, borne, grown, state-after, still-true}

module _ (s t : State) (h k : List Change) (from : ℕ) (a : Set) (are : AreIncarnations (tree s)) (grows : Grows s t) (history : IsHistory (world s) h)
    (still : (x : Artefact) → IsTrueArtefact (world s) h x → IsAfter t k x) (holds : HoldsIn (world s) h (from_on from) a) where
  abbrev w : World
  w = world s

  abbrev v : World
  v = world t

  abbrev i : ℕ
  i = a.inc

  abbrev at : ℕ
  at = a.checkpoint

  abbrev low : ℕ
  low = begin from at

  here-too : (d : Datafile) → exists v i at d ≡ exists w i at d
  here-too d = ap (λ o. nat_lt d.creation at && (o == d.inc)) (grows.keeps.owners i d.creation holds.within.there)

  -- A member, as a level 1 from an SCN up to its checkpoint
  module _ (m : SetFile) (has : Contains a.members m) where
    abbrev f : ℕ
    f = m.piece.file

    taken : IsTaken w h i at (from_on from) m
    taken = holds.holds.taken m has

    member : IsMember a m
    member = All-contains (IsMember a) a.members m holds.valid.members has

    abbrev d : Datafile
    d = taken.datafile

    abbrev n : ℕ
    n = taken.datafile.blocks

    created : creation_of w f ≡ d.creation
    created = ap (λ o. option_map_or (λ (x : Datafile). x.creation) o 0) taken.is

    some : 1 ≤ creation_of w f
    some = let same = taken.creation in let first = member.creation.0 in omega (arith, created, same, first)

    below : creation_of w f < at
    below = let same = taken.creation in let last = member.creation.1 in omega (arith, created, same, last)

    positive : 1 ≤ at
    positive = let under = below in omega (arith, under)

    abbrev rows : List Row
    rows = from_on low (states w h i at f n)

    same-rows : m.piece.rows ≡ rows
    same-rows = taken.rows ∙ picked-begin w h i at f n from history some below

    abbrev p : Piece
    p = record {
      kind = Level1;
      dbid = m.piece.dbid;
      inc = i;
      file = f;
      blocks = m.piece.blocks;
      from = low;
      checkpoint = at;
      high = high_of at rows;
      rows = rows;
    }

    version-low : (r : Row) → Contains rows r → low ≤ r.version
    version-low r held = leb-true low r.version (filter_from (λ (x : Row). nat_le low x.version) (states w h i at f n) r held).1

    row-valid : (r : Row) → Contains rows r → IsRow m.piece.blocks low r
    row-valid r held =
        let listed = subst (λ (rs : List Row). Contains rs r) (sym same-rows) held in
        let was = All-contains (IsRow m.piece.blocks m.piece.from) m.piece.rows r member.piece.rows listed in
        record { block = was.block; version = was.version; from = version-low r held; content = was.content }

    valid : IsPiece p
    valid =
        let is = member.piece in
        let same = member.of.checkpoint in
        record {
          dbid = is.dbid;
          inc = (holds.within.there.0, holds.valid.inc);
          file = is.file;
          blocks = is.blocks;
          checkpoint = (positive, omega (arith, same, is.checkpoint.1));
          kind = (omega arith, omega (arith, positive));
          ascend = subst (AllPairs IsBefore) same-rows is.ascend;
          rows = each-in (IsRow m.piece.blocks low) rows row-valid;
          high = refl;
        }

    blocks-are : blocks_of w f ≡ n
    blocks-are = ap (λ o. option_map_or (λ (x : Datafile). x.blocks) o 0) taken.is

    are-read : AreRead w h i f at low (states w h i at f n)
    are-read = record {
      read = λ r held.
          let found = row-read (state w h i at f) 0 n r held in
          subst (IsStateAfter w h i f at) found.3 (record { position = at; after = omega arith; is = refl });
      others = λ b inside.
          let held = row-there (state w h i at f) 0 n b (omega arith) (omega (arith, inside, blocks-are)) in
          inl (record { row = state w h i at f b; held = held; is = refl });
    }

    version-high : (r : Row) → Contains rows r → r.version < at
    version-high r held =
        let found = row-read (state w h i at f) 0 n r (filter_from (λ (x : Row). nat_le low x.version) (states w h i at f n) r held).0 in
        subst (λ (x : Row). x.version < at) found.3 (version-range w h i at f found.0 history some below).1

    within : PieceEndsWithin (tree s) p
    within =
        let end = holds.within.end in
        (holds.within.there, high-least at rows, high-bound at (end_of (tree s) i) rows end (λ r held. omega (arith, version-high r held, end)))

    inside-files : f ≤ length w.files
    inside-files =
        let there = file-there w f d taken.is in
        omega (arith, there.0, slice_get_within w.files (f - 1) d there.1)

    true-now : IsTrueArtefact w h (a_piece p)
    true-now = record { agrees = picked_agrees w h i f at low (states w h i at f n) are-read; valid = valid; within = within; of = inside-files }

    after : IsAfter t k (a_piece p)
    after = still (a_piece p) true-now

    is-later : file_of v f ≡ Some d
    is-later = grows.stays f d taken.is

    created-later : creation_of v f ≡ d.creation
    created-later = ap (λ o. option_map_or (λ (x : Datafile). x.creation) o 0) is-later

    blocks-later : blocks_of v f ≡ n
    blocks-later = ap (λ o. option_map_or (λ (x : Datafile). x.blocks) o 0) is-later

    same-later : rows ≡ from_on from (states v k i at f n)
    same-later =
        still-picked w v h k i at f n low history after.history some below (omega (arith, positive)) (omega (arith, blocks-later)) after.stays.agrees
        ∙ sym (picked-begin v k i at f n from after.history (omega (arith, created, created-later, some)) (omega (arith, created, created-later, below)))

    taken-later : IsTaken v k i at (from_on from) m
    taken-later = record {
      datafile = d;
      is = is-later;
      exists = here-too d ∙ taken.exists;
      creation = taken.creation;
      blocks = taken.blocks;
      rows = same-rows ∙ same-later;
    }

  -- no datafile that comes exists at an address that lies within
  comes-above : (d : Datafile) → exists v i at d ≡ true → IsThere (tree s) d.inc → d.creation ≡ end_of (tree s) d.inc → ⊥
  comes-above d here there new =
      let both = and_parts (nat_lt d.creation at) (owner (tree t) i d.creation == d.inc) here in
      let own : owner (tree s) i (end_of (tree s) d.inc) ≡ d.inc =
      ap (owner (tree s) i) (sym new) ∙ sym (grows.keeps.owners i d.creation holds.within.there) ∙ eqb-true (owner (tree t) i d.creation) d.inc both.1 in
      let same : i ≡ d.inc = own-at_end (tree s) i d.inc are holds.within.there own in
      let end : at ≤ end_of (tree s) d.inc = subst (λ j. at ≤ end_of (tree s) j) same holds.within.end in
      omega (arith, ltb-true d.creation at both.0, new, end)

  pub holds-later : HoldsIn (world t) k (from_on from) a
  holds-later = record {
    within = record { there = grows.keeps.there i holds.within.there; end = omega (arith, holds.within.end, grows.keeps.end i holds.within.there) };
    valid = holds.valid;
    holds = record {
      each = λ f d is here. elim (grows.comes f d is) [
        | inl old ↦ holds.holds.each f d old (sym (here-too d) ∙ here)
        | inr new ↦ absurd (comes-above d here new.0 new.1)
      ];
      taken = taken-later;
    };
  }

-- A statement, and a stop

pub moment-of : (s : State) (moment : ℕ) → IsMomentIn (Some s) moment → IsMomentOf s moment
moment-of s moment at = record { kept = at.kept; last = at.last }

pub stays-since : (from : ℕ) → StaysHeld (from_on from)
stays-since from m n c moment reply a well sound honest at step held = by m.state refl held
  where
    by : (o : Option State) → m.state ≡ o → HoldsOf (catalog_in o) m.history (from_on from) a → IsHeld n (from_on from) a
    by None is none = absurd none
    by (Some s) is holds =
        let here = moment-of s moment (subst (λ o. IsMomentIn o moment) is at) in
        let to = state-after m n s c moment reply is step in
        let was = borne m n s to.0 c moment reply well sound honest is here step to.1 in
        let grows = grown m n s to.0 c moment reply well sound honest is here step to.1 in
        let still = still-true m n s to.0 c moment reply well sound honest is here step to.1 in
        subst (λ o. HoldsOf (catalog_in o) n.history (from_on from) a) (sym to.1)
        (holds-later s to.0 m.history n.history from a was.state.catalog.ledger.incarnations grows was.keeps.history still holds)

pub stays-whole : StaysHeld (λ rows. rows)
stays-whole = subst StaysHeld (λ j rows. picked-all rows j) (stays-since 0)

module _ (pick : List Row → List Row) (a : Set) where
  -- a machine with these records and this history is at rest
  rests-as : (m : Machine) (r : Rest) → r.catalog ≡ catalog_in m.state → r.history ≡ m.history → IsHeld m pick a → RestsHeld r pick a
  rests-as m r catalog history held =
      subst (λ (h : List Change). HoldsOf r.catalog h pick a) (sym history) (subst (λ o. HoldsOf o m.history pick a) (sym catalog) held)

  pub left-held : (given : List (List ℕ)) (m : Machine) (r : Rest) → IsLeft given m r → IsHeld m pick a → RestsHeld r pick a
  left-held given m r left held = rests-as m r left.catalog left.history held

  pub stops-held : StaysHeld pick → (m : Machine) (c : Command) (moment : ℕ) (r : Rest) → IsStatement c → IsSoundMachine m → IsHonest m c
      → IsMomentIn m.state moment → Stopped m c moment r → IsHeld m pick a → RestsHeld r pick a
  stops-held stays m c moment r well sound honest at stopped held = left-held (names_in c) stopped.machine r stopped.left (elim stopped.one [
    | inl same ↦ subst (λ (x : Machine). IsHeld x pick a) (sym same) held
    | inr went ↦ stays m stopped.machine c moment went.0 a well sound honest at went.1 held
  ])

  -- The end of a session, and the beginning of the next

  rested-held : (m : Machine) (r : Rest) → r ≡ at_rest m → IsHeld m pick a → RestsHeld r pick a
  rested-held m r is held = subst (λ (x : Rest). RestsHeld x pick a) (sym is) held

  saved-held : (m : Machine) (s : State) (r : Rest) → IsSavedAs m (without_damaged s) r → HoldsIn (world s) m.history pick a → RestsHeld r pick a
  saved-held m s r saved holds =
      subst (λ (h : List Change). HoldsOf r.catalog h pick a) (sym saved.history) (subst (λ o. HoldsOf o m.history pick a) (sym saved.catalog) holds)

  pub ended-held : (m : Machine) (r : Rest) (applied : Bool) → IsEnded applied m r → IsHeld m pick a → RestsHeld r pick a
  ended-held m r applied ended held = elim (ended-either m r applied ended) [
    | inl rest ↦ rested-held m r rest held
    | inr site ↦ saved-held m site.state r site.saved (subst (λ o. HoldsOf (catalog_in o) m.history pick a) site.is held)
  ]

  pub wakes-held : (m : Machine) (r : Rest) → Wakes r m → RestsHeld r pick a → IsHeld m pick a
  wakes-held m r wakes held = subst (λ (x : Rest). RestsHeld x pick a) (sym wakes.rest) held
