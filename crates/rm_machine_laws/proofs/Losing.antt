-- HOST LOSE DATAFILE leads on: what stood in place is lost.
use Rattle.std.proofs.Common.{◌≡◌, ◌≢◌, ◌<◌, ◌-◌, ◌∙◌, ◌==◌, not, filter, inl, inr, ℕ, List, Option, Bool, Some, None, true, false, is_none, refl, ap, sym, arith, slice_get, slice_set}
use Rattle.std.proofs.lemmas.{Bool.{eq-eqb, ne_eqb, not-true}, List.{length-set, Elements.{All-contains, All-weaker}}}
use Rattle.rm_base.{specs.{Store.{Held}, declared.block.{BlockId.{BlockId}, Change.{Change}, Row.{Row}}}, proofs.Lists.{filter_from}}
use Rattle.rm_base.proofs.{Conditions.{not-none, unless}, Slots.{get-set, index-set}, Standing.{each-in}}
use Rattle.rm_blocks.specs.File.{File}
use Rattle.rm_lang_statement.specs.declared.command.Command.TheVariants.{LoseDatafile}
use Rattle.rm_history.{specs.State.{state}, proofs.Worlds.{file-there}}
use Rattle.rm_machine.specs.{Damage.{AreDamaged, IsInPlace, has_block}, Effect.{Made}, LoseDatafile.{lose_refusal, without_file}}
use Rattle.rm_machine.specs.{Machine.{HistoryFits, IsBorneOut}, Sound.{IsSound}, State.{current_of, now_of, on_path, placed, world}}
use Rattle.rm_machine.{specs.declared.state.State.{State}, proofs.{Damaged.{damaged-filtered, set-other, with_list}, Places.{placed-is}}}
use Rattle.rm_machine.proofs.{Tracked.{on-path, tracked-same}, DamagedLists.{block-stays, file-stays}}
use Rattle.rm_machine_laws.proofs.{Leading.{LeadsOnBy, StaysBy}, Quiet.{quiet-on, quiet-stays}}

-- what is still there was there
still : (place : List (Option File)) (m k : ℕ) (x : File) → slice_get (slice_set place m None) k ≡ Some (Some x) → slice_get place k ≡ Some (Some x)
still place m k x is = elim (get-set place m k None (Some x) is) [
  | inl gone ↦ absurd (let none : None ≡ Some x = gone.1 in cc)
  | inr other ↦ other.1
]

still-placed : (s : State) (f g : ℕ) (x : File) → placed (without_file s f) g ≡ Some x → (g - 1 ≢ f - 1) × (placed s g ≡ Some x)
still-placed s f g x is = elim (index-set s.instance.place (f - 1) (g - 1) None x is) [
  | inl gone ↦ absurd (let none : None ≡ Some x = gone.1 in cc)
  | inr other ↦ other
]

not-same : (g f : ℕ) → not (g == f) ≡ true → g ≢ f
not-same g f is same = let clash : true ≡ false = sym (eq-eqb g f same) ∙ not-true (g == f) is in absurd (cc)

-- it is one of another number, of which no block goes off the list
other-stays : (s : State) (f g : ℕ) (x : File) → 0 < f → IsSound s → placed (without_file s f) g ≡ Some x → (y : BlockId) → y.file ≡ x.file → not (y.file == f) ≡ true
other-stays s f g x some sound held y same =
    let was = still-placed s f g x held in
    let number = (placed-is s (g - 1) x sound.place was.1).file in
    ap not (ne_eqb y.file f (λ e. was.0 (omega (arith, e, same, number, some))))

-- the damaged blocks of the others are in place
damaged-lost : (s : State) (f : ℕ) → 0 < f → IsSound s → AreDamaged (without_file s f)
damaged-lost s f some is =
    let stays : BlockId → Bool = λ x. not (x.file == f) in
    let was = damaged-filtered s stays is.damaged in
    record {
      idle = was.idle;
      ascend = was.ascend;
      each = each-in (IsInPlace (without_file s f)) (filter stays s.instance.damaged) (λ x has.
          let there = All-contains (IsInPlace (with_list s (filter stays s.instance.damaged))) (filter stays s.instance.damaged) x was.each has in
          let other = not-same x.file f (filter_from stays s.instance.damaged x has).1 in
          record { some = there.some; here = there.here; file = there.file; is = set-other s.instance.place (f - 1) (x.file - 1) None (λ e. other (omega (arith, e, some, there.some))) ∙ there.is; block = there.block });
    }

sound-lost : (s : State) (f : ℕ) → 0 < f → IsSound s → IsSound (without_file s f)
sound-lost s f some is = record {
  catalog = is.catalog;
  dbid = is.dbid;
  place = record {
    many = length-set s.instance.place (f - 1) None ∙ is.place.many;
    each = λ k d x file held. is.place.each k d x file (still s.instance.place (f - 1) k x held);
  };
  logs = record { dbid = is.logs.dbid; there = is.logs.there; four = is.logs.four; threads = is.logs.threads; gone = is.logs.gone; each = is.logs.each };
  damaged = damaged-lost s f some is;
  tracker = tracked-same s (without_file s f) is.tracker;
  in_open = λ opened. let was = is.in_open opened in record { inc = was.inc; found = was.found; point = refl };
  point = λ at here. absurd (let none : None ≡ Some at = here in cc);
}

fits-lost : (s : State) (f : ℕ) (h : List Change) → 0 < f → IsSound s → HistoryFits s h → HistoryFits (without_file s f) h
fits-lost s f h some sound is = record {
  history = is.history;
  below = is.below;
  online = is.online;
  place = λ g x held none. is.place g x (still-placed s f g x held).1 (file-stays s.instance.damaged (λ y. not (y.file == f)) x.file (λ y same. other-stays s f g x some sound held y same) none);
  tracker = is.tracker;
  in_open = λ opened g x held.
      All-weaker (λ (r : Row). has_block s.instance.damaged x.file r.block ≡ false → r ≡ state (world s) h (current_of s) (now_of s) x.file r.block)
      (λ (r : Row). has_block (without_file s f).instance.damaged x.file r.block ≡ false → r ≡ state (world s) h (current_of s) (now_of s) x.file r.block)
      (λ r was clear. was (block-stays s.instance.damaged (λ y. not (y.file == f)) x.file r.block (λ y same block. other-stays s f g x some sound held y same) clear))
      x.rows (is.in_open opened g x (still-placed s f g x held).1);
  point = λ at here. absurd (let none : None ≡ Some at = here in cc);
}

borne-lost : (s : State) (f : ℕ) (h : List Change) (objects : Held) (made : List Made) (touched : List (List ℕ)) → 0 < f → IsBorneOut s h objects made touched → IsBorneOut (without_file s f) h objects made touched
borne-lost s f h objects made touched some is = record {
  state = sound-lost s f some is.state;
  keeps = fits-lost s f h some is.state is.keeps;
  artefacts = is.artefacts;
  records = record { logs = is.records.logs; pieces = is.records.pieces; sets = is.records.sets };
}

-- what is not refused is of a datafile on the current path, so its number is not 0
on-path-some : (s : State) (f : ℕ) → lose_refusal s f ≡ None → 0 < f
on-path-some s f is =
    let found = not-none (on_path s f) (unless (is_none (on_path s f)) _ _ is).0 in
    (file-there (world s) f found.0 (on-path s f found.0 found.1).0).0

pub lose-on : (f : ℕ) → LeadsOnBy (LoseDatafile f)
lose-on f s h objects made touched said e t after well stands tell none does effect =
    quiet-on (without_file s f) h objects made touched _ said e t after does effect (borne-lost s f h objects made touched (on-path-some s f none) stands)

pub lose-stays : (f : ℕ) → StaysBy (LoseDatafile f)
lose-stays f s objects said e t well sound none accepted does = quiet-stays (without_file s f) _ said e t does (sound-lost s f (on-path-some s f accepted) sound) none
