-- SHUTDOWN and STARTUP lead on: the mode changes.
use Rattle.std.proofs.Common.{◌≡◌, ◌+◌, ◌-◌, ◌∙◌, ℕ, List, [], Some, None, Bool, true, false, cond, is_none, refl, ap, sym, subst, arith, slice_get, slice_index_or}
use Rattle.std.proofs.lemmas.Bool.{false≢true}
use Rattle.rm_base.{specs.{Store.{Held}, declared.block.Change.{Change}}, proofs.{Slots.{get-mapped, index-get}, Conditions.{given-where}}}
use Rattle.rm_blocks.specs.File.{File, base_of}
use Rattle.rm_history.specs.Agrees.{BaseAgrees}
use Rattle.rm_machine.specs.{Damage.{has_file, without_damaged}, Effect.{Made}, Machine.{HistoryFits, RowsAre, IsBorneOut}}
use Rattle.rm_machine.specs.{Mount.{as_mounted, first_lost, mount_point, mounted}, Sound.{IsSound}, State.{world, placed, counted}}
use Rattle.rm_machine.{specs.declared.state.State.{State}, proofs.{Undamaged.{sound-undamaged}, FirstTold.{tell-none}}}
use Rattle.rm_machine.proofs.{LosingFits.{losing-fits}, Places.{counted-closed, counted-open, placed-map}}
use Rattle.rm_machine.proofs.Mounting.{mode-either, sound-as_mounted}
use Rattle.rm_machine.proofs.Mounting as shared
use Rattle.rm_lang_statement.specs.declared.command.Command.TheVariants.{Mount}
use Rattle.rm_machine_laws.proofs.{DamagedRows.{none-damaged}, Leading.{LeadsOnBy, StaysBy}, Quiet.{quiet-on, quiet-stays}}

module _ (s : State) (sound : IsSound s) (opened : s.instance.is_open ≡ true) (none : s.instance.damaged ≡ []) where
  abbrev i : ℕ
  i = shared.i s sound opened

  abbrev now : ℕ
  now = shared.now s sound opened

  abbrev q : State
  q = shared.q s sound opened

  abbrev stand : File → File
  stand = shared.stand s sound opened

  sound-mounted : IsSound q
  sound-mounted = shared.sound-mounted s sound opened none

  module _ (h : List Change) (keeps : HistoryFits s h) where
    agrees-after : (f : ℕ) (x : File) → placed q f ≡ Some x → BaseAgrees (world s) h (base_of (counted q x))
    agrees-after f x is =
        let was = placed-map stand s.instance.place (f - 1) x is in
        subst (λ y. BaseAgrees (world s) h (base_of y)) (counted-open s was.0 opened ∙ was.2 ∙ sym (counted-closed q x refl)) (keeps.place f was.0 was.1 (ap (λ xs. has_file xs was.0.file) none))

    rows-after : (at : ℕ) → mount_point s ≡ Some at → (k : ℕ) (x : File) → slice_get q.instance.place k ≡ Some (Some x) → RowsAre (world s) h i at x
    rows-after at is k x held =
        let both = given-where (is_none (first_lost (world s) i now 1 s.catalog.ledger.files s.instance.place)) (Some now) at is in
        let same : now ≡ at = (let e : Some now ≡ Some at = both.1 in cc) in
        let was = get-mapped stand s.instance.place k x held in
        let back : k ≡ k + 1 - 1 = omega arith in
        let but = keeps.in_open opened (k + 1) was.0 (subst (λ n. slice_index_or s.instance.place n None ≡ Some was.0) back (index-get s.instance.place k was.0 was.1)) in
        let rows = none-damaged s.instance.damaged (world s) h i now was.0 (ap (λ xs. has_file xs was.0.file) none) but in
        subst (λ n. RowsAre (world s) h i n x) same (subst (RowsAre (world s) h i now) was.2 rows)

    keeps-mounted : HistoryFits q h
    keeps-mounted = record {
      history = keeps.history;
      below = keeps.below;
      online = keeps.online;
      place = λ f x is clear. agrees-after f x is;
      tracker = tell-none i h now;
      in_open = λ mode. absurd (false≢true mode);
      point = λ at is k d x file here held. rows-after at is k x held;
    }

  stands-open : (h : List Change) (objects : Held) (made : List Made) (touched : List (List ℕ)) → IsBorneOut s h objects made touched → IsBorneOut q h objects made touched
  stands-open h objects made touched stands = record {
    state = sound-mounted;
    keeps = keeps-mounted h stands.keeps;
    artefacts = stands.artefacts;
    records = record { logs = stands.records.logs; pieces = stands.records.pieces; sets = stands.records.sets };
  }

-- a database of which the datafiles with damaged blocks are lost is borne out as before
stands-undamaged : (s : State) (h : List Change) (objects : Held) (made : List Made) (touched : List (List ℕ)) → IsBorneOut s h objects made touched → IsBorneOut (without_damaged s) h objects made touched
stands-undamaged s h objects made touched stands = record {
  state = sound-undamaged s stands.state;
  keeps = losing-fits s h stands.state stands.keeps;
  artefacts = stands.artefacts;
  records = record { logs = stands.records.logs; pieces = stands.records.pieces; sets = stands.records.sets };
}

pub stands-as_mounted : (s : State) (h : List Change) (objects : Held) (made : List Made) (touched : List (List ℕ)) → IsBorneOut s h objects made touched → IsBorneOut (as_mounted s) h objects made touched
stands-as_mounted s h objects made touched stands = mode-either (λ q. IsBorneOut q h objects made touched) s s.instance.is_open (λ opened. let lost = stands-undamaged s h objects made touched stands in stands-open (without_damaged s) lost.state opened refl h objects made touched lost) stands

pub closed-as_mounted : (s : State) → (as_mounted s).instance.is_open ≡ false
closed-as_mounted s = closed-by s.instance.is_open refl
  where
    closed-by : (b : Bool) → s.instance.is_open ≡ b → (cond s.instance.is_open (mounted (without_damaged s)) s).instance.is_open ≡ false
    closed-by true is = ap (λ c. (cond c (mounted (without_damaged s)) s).instance.is_open) is
    closed-by false is = ap (λ c. (cond c (mounted (without_damaged s)) s).instance.is_open) is ∙ is

pub mount-on : LeadsOnBy Mount
mount-on s h objects made touched said e t after well stands tell none does effect =
    quiet-on (as_mounted s) h objects made touched _ said e t after does effect (stands-as_mounted s h objects made touched stands)

pub none-mounted : (s : State) → s.catalog.saved ≡ None → (as_mounted s).catalog.saved ≡ None
none-mounted s none = mode-either (λ q. q.catalog.saved ≡ None) s s.instance.is_open (λ opened. none) none

pub mount-stays : StaysBy Mount
mount-stays s objects said e t well sound none accepted does = quiet-stays (as_mounted s) _ said e t does (sound-as_mounted s sound) (none-mounted s none)
