-- A machine that wakes is sound.
use Rattle.std.specs.Option.{option_map}
use Rattle.std.proofs.Common.{◌≡◌, ◌<◌, ◌≤◌, ◌+◌, ◌-◌, ◌∙◌, not, inl, inr, ℕ, List, Option, Some, None, IfSome, true, false, ap, sym, subst, arith, Contains, slice_get, slice_index_or}
use Rattle.std.proofs.lemmas.{Bool.{and_parts, cases_Bool}, List.Elements.{All-contains}, Option.{slice_get_within}}
use Rattle.rm_base.{specs.{Store.{Held}, declared.block.{Change.{Change}, Row.{Row}}}, proofs.Slots.{get-index, index-get}}
use Rattle.rm_blocks.specs.File.{File, base_of, standing}
use Rattle.rm_catalog.specs.declared.record.PartEntry.{PartEntry}
use Rattle.rm_history.specs.{Agrees.{BaseAgrees, LogAgrees}, Tree.{end_of}, World.{exists}, declared.world.Datafile.{Datafile}}
use Rattle.rm_history.proofs.Highs.{high-above}
use Rattle.rm_catalog_typed.{specs.TypedCatalog.{Saved}, proofs.Lookups.{item-at}}
use Rattle.rm_track.specs.Told.{Tell}
use Rattle.rm_piece.specs.declared.piece.Piece.{Piece}
use Rattle.rm_redo.specs.{LogFile.{log_of}, Online.{IsThread}}
use Rattle.rm_machine.specs.{Effect.{Made}, Loading.{IsLoaded, IsLoadedBy, IsLoadedOf, IsTheOne, file_in}}
use Rattle.rm_machine.specs.Machine.{HistoryFits, IsSoundBy, IsSoundMachine, Machine, RowsAre}
use Rattle.rm_machine.specs.Rest.{HasPartArtefact, HaveParts, IsRestBorneOut, IsSoundRest, IsSoundRestBy, PartsTell, PartsTellFor, Rest, Wakes, catalog_in}
use Rattle.rm_machine.specs.{Saved.{IsGoodFile, IsGoodLog}, Sound.{IsSound}}
use Rattle.rm_machine.specs.{State.{has_lost, counted, current_of, is_lost, ledger, now_of, online, world}, declared.state.State.{State}}
use Rattle.rm_machine.proofs.{FirstTold.{tell-first}, Places.{counted-closed, counted-open}, AllLost.{lost-fits}, OnlineParts.{online-part}}
use Rattle.rm_session.proofs.{GoodParts.{file-agrees, log-agrees}, RowsThere.{rows-are}}

-- what is loaded is there where its part is
good-by : (Good : Piece → Type 0) (o : Option Piece) (x : File) → IsTheOne Good o → Some x ≡ option_map file_in o → (a : Piece) × Good a × (x ≡ file_in a)
good-by Good None x one is = absurd cc
good-by Good (Some a) x one is = (a, one, (let same : Some x ≡ Some (file_in a) = is in cc))

module _ (s : State) (h : List Change) (objects : Held) (made : List Made) (touched : List (List ℕ)) (sound : IsSound s) (borne : IsRestBorneOut s.catalog h objects made touched) where
  module _ (site : Saved) (loaded : IsLoadedOf objects s site) (parts : (p : PartEntry) → Contains site.parts p → HasPartArtefact objects made touched p) (tell : PartsTellFor objects made touched site) where
    -- what stands in place is that of a good part
    record IsOfGood (k : ℕ) (x : File) : Type 0 where
      datafile : Datafile
      piece : Piece
      good : IsGoodFile objects (ledger s) site (k + 1) datafile piece
      is : x ≡ file_in piece

    of-good : (k : ℕ) (x : File) → slice_index_or s.instance.place k None ≡ Some x → IsOfGood k x
    of-good k x here =
        let inside = slice_get_within s.instance.place k (Some x) (get-index s.instance.place k x here) in
        let d = item-at (ledger s).files k (omega (arith, inside, loaded.many)) in
        let one = loaded.place k d.0 d.1 in
        let by = good-by (IsGoodFile objects (ledger s) site (k + 1) d.0) one.part x one.good (sym here ∙ one.is) in
        record { datafile = d.0; piece = by.0; good = by.1; is = by.2 }

    -- so it agrees
    agrees : (k : ℕ) (x : File) → slice_index_or s.instance.place k None ≡ Some x → BaseAgrees (world s) h (base_of x)
    agrees k x here =
        let by = of-good k x here in
        subst (λ y. BaseAgrees (world s) h (base_of y)) (sym by.is)
        (file-agrees (ledger s) h objects made touched site borne.artefacts parts tell (k + 1) by.datafile by.piece (omega arith) by.good)

    opened : s.instance.is_open ≡ true → site.head.opened ≡ true
    opened is = (and_parts site.head.opened (not (has_lost s.instance.logs)) (sym loaded.is_open ∙ is)).0

    -- in an open database it stands at `now`
    at-now : s.instance.is_open ≡ true → (k : ℕ) (x : File) → slice_index_or s.instance.place k None ≡ Some x → (x.inc ≡ current_of s) × (x.checkpoint ≡ now_of s)
    at-now is k x here =
        let by = of-good k x here in
        let fits = by.good.fits.in_open (opened is) in
        (ap (λ (y : File). y.inc) by.is ∙ fits.0, ap (λ (y : File). y.checkpoint) by.is ∙ fits.1)

    counted-same : (k : ℕ) (x : File) → slice_index_or s.instance.place k None ≡ Some x → counted s x ≡ x
    counted-same k x here = elim (cases_Bool s.instance.is_open) [
      | inl is ↦ let there = at-now is k x here in counted-open s x is ∙ (λ i. standing x (sym there.0 i) (sym there.1 i))
      | inr closed ↦ counted-closed s x closed
    ]

    -- and lies below it
    below-now : s.instance.is_open ≡ true → (k : ℕ) (x : File) → slice_index_or s.instance.place k None ≡ Some x → (r : Row) → Contains x.rows r → r.version < now_of s
    below-now is k x here r has =
        let by = of-good k x here in
        let a = by.piece in
        let above = high-above a.checkpoint a.rows r (subst (λ (y : File). Contains y.rows r) by.is has) in
        let end : a.high ≤ now_of s = subst (λ i. a.high ≤ end_of (ledger s).tree i) (by.good.fits.in_open (opened is)).0 by.good.fits.end in
        omega (arith, above, by.good.valid.high, end)

    open-rows : s.instance.is_open ≡ true → (k : ℕ) (x : File) → slice_index_or s.instance.place k None ≡ Some x → RowsAre (world s) h (current_of s) (now_of s) x
    open-rows is k x here =
        let there = at-now is k x here in
        rows-are (world s) h borne.history (current_of s) (now_of s) x (agrees k x here) there.0 there.1 (below-now is k x here)

    -- what stands at the point has the states there
    point-rows : (at : ℕ) → s.instance.point ≡ Some at → (k : ℕ) (d : Datafile) (x : File) → slice_get (ledger s).files k ≡ Some d → exists (world s) (current_of s) at d ≡ true → slice_get s.instance.place k ≡ Some (Some x) → RowsAre (world s) h (current_of s) at x
    point-rows at point k d x file there here =
        let stands = (sound.point at point).stands k d file there in
        let same : stands.file ≡ x = (let both : Some (Some stands.file) ≡ Some (Some x) = sym stands.is ∙ here in cc) in
        let low : (r : Row) → Contains stands.file.rows r → r.version < at = λ r has. All-contains (λ (q : Row). q.version < at) stands.file.rows r stands.below has in
        subst (RowsAre (world s) h (current_of s) at) same
        (rows-are (world s) h borne.history (current_of s) at stands.file (agrees k stands.file (index-get s.instance.place k stands.file stands.is)) stands.inc stands.checkpoint low)

    -- an online log that is not lost is that of a good part
    log-is : (t : ℕ) → IsThread s.instance.logs t → is_lost s.instance.logs t ≡ false → LogAgrees h (log_of (online s t))
    log-is t there found =
        let logs = loaded.logs in
        let log = online-part (ledger s) site.head.opened s.instance.logs logs.parts (IsGoodLog objects (ledger s) site) logs.many logs.are (λ t a good. good.fits) (λ k a at. logs.good k (Some a) at) t there found in
        subst (λ a. LogAgrees h (log_of a)) (sym log.is) (log-agrees (ledger s) h objects made touched site borne.artefacts parts tell t log.log log.holds)

    site-fits : HistoryFits s h
    site-fits = record {
      history = borne.history;
      below = borne.below;
      online = log-is;
      place = λ f x here _. subst (λ y. BaseAgrees (world s) h (base_of y)) (sym (counted-same (f - 1) x here)) (agrees (f - 1) x here);
      tracker = subst (Tell (current_of s) h (now_of s)) (sym loaded.tracker) (tell-first (ledger s) s.instance.is_open h borne.below);
      in_open = λ is f x here j e inside. λ _. open-rows is (f - 1) x here j e inside;
      point = point-rows;
    }

  fits-by : (o : Option Saved) → IsLoadedBy objects s o → HaveParts objects made touched o → IfSome o (PartsTellFor objects made touched) → HistoryFits s h
  fits-by None loaded parts tell = lost-fits s h borne.history borne.below loaded
  fits-by (Some site) loaded parts tell = site-fits site loaded parts tell

sound-by : (o : Option State) (h : List Change) (objects : Held) (made : List Made) (touched : List (List ℕ)) → IsSoundRestBy (catalog_in o) h objects made touched → IfSome (catalog_in o) (λ c. IfSome c.saved (PartsTellFor objects made touched)) → IfSome o (IsLoaded objects) → IfSome o IsSound → IsSoundBy o h objects made touched
sound-by None h objects made touched borne tell loaded sound = borne
sound-by (Some s) h objects made touched borne tell loaded sound = record {
  state = sound;
  keeps = fits-by s h objects made touched sound borne s.catalog.saved loaded borne.parts tell;
  artefacts = borne.artefacts;
  records = borne.records;
}

pub waking-sound : (r : Rest) (m : Machine) → IsSoundRest r → PartsTell r → Wakes r m → IfSome m.state IsSound → IsSoundMachine m
waking-sound r m sound tell wakes state =
    sound-by m.state m.history m.objects m.made m.touched (subst IsSoundRest (sym wakes.rest) sound) (subst PartsTell (sym wakes.rest) tell) wakes.loaded state
