-- One SCN further: the current incarnation of an open database ends one SCN later, behind the mark of `now`.
use Rattle.std.proofs.Common.{◌≡◌, ◌<◌, ◌≤◌, ◌+◌, ◌-◌, ◌∙◌, ◌&&◌, ◌⊎◌, nat_lt, inl, inr, ℕ, List, true, false, refl, ap, sym, subst, arith, length, length-append}
use Rattle.std.proofs.lemmas.{Bool.{and_from, cases_lt, lt-ltb}, List.{length-set}}
use Rattle.rm_base.specs.Numbers.{last_scn}
use Rattle.rm_blocks.specs.File.{File, standing}
use Rattle.rm_history.specs.{Tree.{IsThere, end_of}, declared.{tree.Incarnation.{Incarnation}, world.Datafile.{Datafile}}}
use Rattle.rm_history.proofs.{Ends.{end_of-with_end}, Highs.{high-above, high-bound}}
use Rattle.rm_catalog_typed.specs.{Ledger.{ledger_records}, Switches.{is_enabled_in}, Facts.{IsTypedCatalog}}
use Rattle.rm_catalog_typed.proofs.{Trees.{Keeps, keeps_end}, Fitted.{end_fits, many}, Enabled.{enabled-risen}}
use Rattle.rm_redo.{specs.Online.{IsThread, has_log}, proofs.FurtherLogs.{log-further}}
use Rattle.rm_machine.specs.{Marks.{last_marked, marks_before, one_further, with_marks}, Sound.{IsOnline, IsPlaced, IsSound}}
use Rattle.rm_machine.specs.{State.{ledger, current_of, now_of, redo_end, online, is_lost}, declared.state.State.{State}}
use Rattle.rm_machine.proofs.{Places.{counted-open}, BackupMarks.{marks-fit}, Tracked.{tracked-later}, Damaged.{damaged-later}}

-- so many records are not too many
pub roomy-either : (n total : ℕ) → (nat_lt 0 n && nat_lt 65536 total) ≡ false → (n ≡ 0) ⊎ (total ≤ 65536)
roomy-either n total is = elim (cases_lt 0 n) [
  | inr none ↦ inl (omega (arith, none))
  | inl some ↦ elim (cases_lt 65536 total) [
    | inr few ↦ inr few
    | inl many ↦ absurd (let both : (nat_lt 0 n && nat_lt 65536 total) ≡ true = and_from (nat_lt 0 n) (nat_lt 65536 total) (lt-ltb 0 n some) (lt-ltb 65536 total many) in let clash : true ≡ false = sym both ∙ is in cc)
  ]
]

pub roomy : (n held : ℕ) → (nat_lt 0 n && nat_lt 65536 (held + n)) ≡ false → held ≤ 65536 → held + n ≤ 65536
roomy n held is few = elim (roomy-either n (held + n) is) [
  | inl none ↦ omega (arith, none, few)
  | inr room ↦ room
]

-- an open database that has an SCN, and room for the mark before a change
pub record GoesOn (s : State) : Type 0 where
  pub opened : s.instance.is_open ≡ true
  pub room : length (ledger_records (ledger s)) + length (marks_before s) ≤ 65536
  pub below : now_of s < last_scn

-- the database one SCN further
abbrev pub further : State → State
further s = record s { catalog = one_further s }

module _ (s : State) (sound : IsSound s) (on : GoesOn s) where
  abbrev pub i : ℕ
  i = current_of s

  abbrev pub now : ℕ
  now = now_of s

  abbrev pub old : List Incarnation
  old = s.catalog.ledger.tree

  abbrev pub q : State
  q = further s

  abbrev pub tree : List Incarnation
  tree = q.catalog.ledger.tree

  pub there : IsThere old i
  there = sound.catalog.ledger.current

  last : now + 1 ≤ last_scn
  last = let below = on.below in omega (arith, below)

  pub keeps-further : Keeps old tree
  keeps-further = keeps_end old i (now + 1) there (omega arith)

  pub now-further : now_of q ≡ now + 1
  now-further = end_of-with_end old i (now + 1) there

  pub catalog-further : IsTypedCatalog q.catalog
  catalog-further = end_fits (with_marks s.catalog (marks_before s)) i (now + 1) (marks-fit s sound (nat_lt (last_marked 0 s.catalog.ledger.marks) s.catalog.ledger.base.moment) on.room) there (omega arith) last

  -- the mark is one record more
  pub count-further : length (ledger_records (ledger q)) ≡ length (ledger_records (ledger s)) + length (marks_before s)
  count-further =
      let long : length tree ≡ length old = length-set old (i - 1) _ in
      omega (arith, many (ledger s), many (ledger q), long, length-append s.catalog.ledger.marks (marks_before s))

  -- what is in place lies below `now`, and so below the new end
  placed-further : (k : ℕ) (d : Datafile) (x : File) → IsPlaced old k d (standing x i now) → IsPlaced tree k d (standing x i (now_of q))
  placed-further k d x is =
      record {
        file = is.file;
        blocks = is.blocks;
        order = is.order;
        rows = is.rows;
        there = keeps-further.there i there;
        checkpoint = omega (arith, now-further);
        high = high-bound (now_of q) (now_of q) x.rows (omega arith) (λ r has. let above = high-above now x.rows r has in omega (arith, above, is.high, now-further));
      }

  pub inc-now : s.instance.logs.inc ≡ i
  inc-now = (sound.in_open on.opened).inc

  pub redo-now : redo_end s ≡ now
  redo-now = ap (end_of old) inc-now

  redo-further : redo_end q ≡ now + 1
  redo-further = ap (end_of tree) inc-now ∙ now-further

  -- the online logs tell further
  online-further : (t : ℕ) → IsThread s.instance.logs t → is_lost s.instance.logs t ≡ false → IsOnline tree (online q t)
  online-further t is found =
      let was = sound.logs.each t is found in
      record {
        valid = log-further (online s t) (online q t) was.valid refl refl refl refl refl (omega (arith, redo-now, redo-further)) (omega (arith, redo-further, last)) (inl refl);
        begun = omega (arith, keeps-further.reset s.instance.logs.inc sound.logs.there, was.begun);
      }

  -- and are those of the same threads
  threads-further : (t : ℕ) → 0 < t → t ≤ 4 → has_log s.instance.logs t ≡ is_enabled_in (ledger q) s.instance.logs.inc (redo_end q) t
  threads-further t low high =
      sound.logs.threads t low high ∙ sym (enabled-risen (ledger s) sound.catalog.ledger tree keeps-further s.instance.logs.inc t sound.logs.there)

  pub sound-further : IsSound q
  sound-further =
      let opened = sound.in_open on.opened in
      record {
        catalog = catalog-further;
        dbid = sound.dbid;
        place = record {
          many = sound.place.many;
          each = λ k d x file held. subst (IsPlaced tree k d) (sym (counted-open q x on.opened)) (placed-further k d x (subst (IsPlaced old k d) (counted-open s x on.opened) (sound.place.each k d x file held)));
        };
        logs = record { dbid = sound.logs.dbid; there = keeps-further.there s.instance.logs.inc sound.logs.there; four = sound.logs.four; threads = threads-further; gone = sound.logs.gone; each = online-further };
        damaged = damaged-later s q sound.catalog keeps-further sound.damaged;
        tracker = tracked-later s q sound.catalog keeps-further sound.tracker;
        in_open = λ _. record { inc = opened.inc; found = opened.found; point = opened.point };
        point = λ n is. absurd (let none = opened.point in cc);
      }
