-- RECOVER COPY leads on: what is at hand makes of a copy one that can be recorded, and that agrees with the history.
use Rattle.std.proofs.Common.{◌≡◌, ◌≢◌, ◌<◌, ◌≤◌, ◌-◌, ◌+◌, ◌∙◌, ◌++◌, ℕ, List, Option, Some, None, Bool, true, false, refl, ap, sym, subst, arith, slice_get, All, Contains}
use Rattle.std.proofs.lemmas.{List.Elements.{All-contains}, Option.{same_Some, slice_get_within}}
use Rattle.rm_base.{specs.{Store.{Held}, declared.{block.Change.{Change}, kinds.Kind.TheVariants.{Level1}}}, proofs.Sealing.{length-sealed}}
use Rattle.rm_base.proofs.Standing.{each-in}
use Rattle.rm_backup.specs.{Level1s.{IsReached, next}, Records.{pieces}, Renewed.{IsMerged, IsRenewed, TakesOver, copy_at}}
use Rattle.rm_backup.{specs.declared.renewing.Renewed.{Renewed}, proofs.{AtHand.{copy_at_hand}, Chained.{reached_agrees, reached_valid}}}
use Rattle.rm_backup.proofs.Merges.{EndsIn, IsLast, KeepsOn, last-merge, reached-keeps}
use Rattle.rm_catalog.specs.{Objects.{IsTag}, Rules.{IsCatalog}, Trees.{nodes}, declared.record.{PieceEntry.{PieceEntry}, Record.{Record}}}
use Rattle.rm_catalog.proofs.Incarnations.{is-tree}
use Rattle.rm_evidence.specs.{Available.{HasPieceObject}, Known.{FitsPiece}, Names.{roll_name, site_name}, Objects.{piece_entry}}
use Rattle.rm_evidence.{specs.declared.evidence.Evidence.{Evidence}, proofs.Parts.{part-of}}
use Rattle.rm_history.{specs.{Tree.{IsThere, IsTree, end_of, owner}, declared.world.Datafile.{Datafile}}, proofs.Highs.{high-least}}
use Rattle.rm_catalog_typed.specs.{LedgerFacts.{IsPieceEntry, IsSetEntry, IsSetPart}, TypedCatalog.{records_of}}
use Rattle.rm_catalog_typed.proofs.{Members.{piece-has}, Valid.{typed_catalog-valid}, Records.{database-told, pieces-told, tree-told}}
use Rattle.rm_merge.specs.Merge.{merged}
use Rattle.rm_piece.specs.{Sets.{IsMember}, Spelling.{body_of}, Valid.{IsPiece}, declared.piece.Piece.{Piece}}
use Rattle.rm_piece.proofs.{Bodies.{length-body}, Fitting.{few_rows, fits as fits-piece}}
use Rattle.rm_report.specs.declared.line.Line.{Line}
use Rattle.rm_lang_statement.specs.declared.command.{Command.TheVariants.{RecoverCopy}, Until.{Until}}
use Rattle.rm_machine.specs.{Effect.{Effect, LeavesObjects, Made, a_piece, done}, Machine.{DigestsTellFor, IsBorneOut, IsTrueArtefact}}
use Rattle.rm_machine.specs.{Names.{IsObjectName}, Recover.{recover_target}}
use Rattle.rm_machine.specs.RecoverCopy.{AreRenewed, RenewsTo, after_copies, copies_gone, renewed_refusal, renewing}
use Rattle.rm_machine.specs.{Recovery.{IsAtHand, in_place}, Sound.{IsSound}, State.{ledger, tree, world}, declared.state.State.{State}}
use Rattle.rm_machine.proofs.{Later.{borne-beside}, Renewing.{CanRenew, CanRenewAll, CanRenewTo, copy-kind, ids-left, renewed-apart}}
use Rattle.rm_machine.proofs.Restoring.{entry-rows}
use Rattle.rm_machine_laws.proofs.{Agreeing.{base-by, level1-by}, AtHand.{BackupFrom, from_copy, from_piece, from_set, level1-from}}
use Rattle.rm_machine_laws.proofs.{BackingUpLogs.{done-of}, Deleting.{stand-without}, Leading.{LeadsOnBy, StaysBy}}
use Rattle.rm_machine_laws.proofs.OldCopies.{IsNewCopy, copies-new, old-free, old-no-part, old-no-roll}
use Rattle.rm_machine_laws.proofs.{Renewing.{IsTrueTo, renewals-borne, renewals-next, renewals-saved, renewals-sound}, Quiet.{unchanged}}

module _ (s : State) (held : Held) (sound : IsSound s) (e : Evidence) (at_hand : IsAtHand s held e) where
  abbrev rs : List Record
  rs = records_of s.catalog

  rule-of : (p : PieceEntry) → Contains (ledger s).pieces p → IsPieceEntry (tree s) (ledger s).files p
  rule-of p has = All-contains (IsPieceEntry (tree s) (ledger s).files) (ledger s).pieces p sound.catalog.ledger.pieces has

  valid-rules : IsCatalog rs
  valid-rules = typed_catalog-valid s.catalog sound.catalog

  a-tree : IsTree (tree s)
  a-tree = subst IsTree (tree-told s.catalog) (is-tree rs valid-rules (database-told s.catalog))

  -- what records tell of a backup at hand: its datafile was created on the path of its incarnation, up to the end of which it lies
  record IsToldOf (a : Piece) : Type 0 where
    valid : IsPiece a
    there : IsThere (tree s) a.inc
    datafile : Datafile
    is : slice_get (ledger s).files (a.file - 1) ≡ Some datafile
    path : owner (tree s) a.inc datafile.creation ≡ datafile.inc
    high : a.high ≤ end_of (tree s) a.inc

  backup-told : (a : Piece) → BackupFrom s held a → IsToldOf a
  backup-told a (from_piece p _ has there) =
      let rule = rule-of p has in
      let is = there.object.fields in
      let d : Datafile = rule.file.datafile in
      record {
        valid = there.object.valid;
        there = subst (IsThere (tree s)) (sym is.inc) rule.there;
        datafile = d;
        is = ap (λ k. slice_get (ledger s).files (k - 1)) is.file ∙ rule.file.is;
        path = ap (λ i. owner (tree s) i d.creation) is.inc ∙ rule.file.path;
        high = subst (λ n. n ≤ end_of (tree s) a.inc) (sym is.high) (subst (λ i. p.high ≤ end_of (tree s) i) (sym is.inc) rule.high);
      }
  backup-told _ (from_set e set m has there member) =
      let entry = All-contains (IsSetEntry (tree s) (ledger s).files) (ledger s).sets e sound.catalog.ledger.sets has in
      let of = All-contains (IsMember set) set.members m there.object.valid.members member in
      let found = part-of e.parts set.members m there.object.fields.parts member in
      let rule = All-contains (IsSetPart (tree s) (ledger s).files e) e.parts found.0 entry.parts found.1 in
      let d : Datafile = rule.datafile in
      let inc : m.piece.inc ≡ e.inc = of.of.inc ∙ there.object.fields.inc in
      record {
        valid = of.piece;
        there = subst (IsThere (tree s)) (sym inc) entry.there;
        datafile = d;
        is = ap (λ k. slice_get (ledger s).files (k - 1)) found.2.file ∙ rule.is;
        path = ap (λ i. owner (tree s) i d.creation) inc ∙ rule.path;
        high = subst (λ n. n ≤ end_of (tree s) m.piece.inc) (sym found.2.high) (subst (λ i. found.0.high ≤ end_of (tree s) i) (sym inc) rule.high.1);
      }

  level1-told : (x : ℕ × Piece) → Contains e.level1s x → IsToldOf x.1
  level1-told x has = backup-told x.1 (level1-from s held sound e at_hand x.0 x.1 has).backup

  -- each level 1 at hand lies within the end of its incarnation
  level1-ends : (x : ℕ × Piece) → Contains e.level1s x → EndsIn (tree s) x.1
  level1-ends x has = let told = level1-told x has in record { fits = record { valid = told.valid; inc = told.there }; high = told.high }

  level1s-fit : All (λ y. FitsPiece (nodes rs) y.1) e.level1s
  level1s-fit = subst (λ ns. All (λ (y : ℕ × Piece). FitsPiece ns y.1) e.level1s) (sym (tree-told s.catalog)) (each-in (λ (y : ℕ × Piece). FitsPiece (tree s) y.1) e.level1s (λ y has. (level1-ends y has).fits))

  -- the copy that is at hand of a record takes over level 1s
  record FromCopy (f : ℕ) (tag : List ℕ) (at n : ℕ) (last : Piece) : Type 0 where
    entry : PieceEntry
    recorded : Contains (ledger s).pieces entry
    copy : entry.copy ≡ true
    tagged : entry.tag ≡ tag
    id : entry.id ≡ n
    now : Piece
    has : HasPieceObject held entry now
    takes : TakesOver rs f tag at e.level1s now last

  module _ (f : ℕ) (tag : List ℕ) (at n : ℕ) (last : Piece) (from : FromCopy f tag at n last) where
    kind : from.entry.kind ≢ Level1
    kind = copy-kind from.entry.kind from.entry (rule-of from.entry from.recorded).kind from.copy

    ends : IsLast rs f tag at e.level1s from.now last
    ends = last-merge rs f tag at e.level1s from.now from.takes.first last from.takes.next from.takes.end.reached

    reached : IsReached rs f tag at e.level1s from.now (merged ends.before ends.level1.1)
    reached = next ends.before ends.level1 ends.reached ends.chosen

    valid : IsPiece (merged ends.before ends.level1.1)
    valid = reached_valid rs f tag at e.level1s from.now (merged ends.before ends.level1.1) level1s-fit from.has.object.valid reached

    keeps : KeepsOn (tree s) from.now (merged ends.before ends.level1.1)
    keeps =
        let is = from.has.object.fields in
        let high : from.now.high ≤ end_of (tree s) from.now.inc = subst (λ m. m ≤ end_of (tree s) from.now.inc) (sym is.high) (subst (λ i. from.entry.high ≤ end_of (tree s) i) (sym is.inc) (rule-of from.entry from.recorded).high) in
        reached-keeps rs f tag at e.level1s (tree s) (tree-told s.catalog) a-tree (λ i there. (sound.catalog.ledger.incarnations.ranges i there).1) level1-ends from.now (merged ends.before ends.level1.1) level1s-fit from.has.object.valid high reached

    last-told : IsToldOf ends.level1.1
    last-told = level1-told ends.level1 ends.chosen.held

    file-is : ends.before.file ≡ from.entry.file
    file-is = keeps.file ∙ from.has.object.fields.file

    -- the datafile of the copy is that of the last level 1
    one-datafile : last-told.datafile ≡ (rule-of from.entry from.recorded).file.datafile
    one-datafile =
        let first = (rule-of from.entry from.recorded).file in
        let number : ends.level1.1.file ≡ from.entry.file = sym ends.chosen.passes.meets.file ∙ file-is in
        same_Some last-told.datafile first.datafile (sym last-told.is ∙ ap (λ k. slice_get (ledger s).files (k - 1)) number ∙ first.is)

    merged-entry : (keep : Bool) (moment id : ℕ) → IsPieceEntry (tree s) (ledger s).files (piece_entry true keep tag moment id (merged ends.before ends.level1.1))
    merged-entry keep moment id =
        let a : Piece = merged ends.before ends.level1.1 in
        let first = rule-of from.entry from.recorded in
        let d : Datafile = first.file.datafile in
        record {
          there = last-told.there;
          file = record {
            number = subst (λ k. 0 < k) (sym file-is) first.file.number;
            datafile = d;
            is = subst (λ k. slice_get (ledger s).files (k - 1) ≡ Some d) (sym file-is) first.file.is;
            path = subst (λ (x : Datafile). owner (tree s) a.inc x.creation ≡ x.inc) one-datafile last-told.path;
            rows = keeps.rows ∙ from.has.object.fields.rows ∙ entry-rows from.entry.kind from.entry.rows d.blocks kind first.file.rows;
          };
          checkpoint = (valid.checkpoint.0, high-least a.checkpoint a.rows);
          high = keeps.high;
          kind = refl;
          tag = subst IsTag from.tagged first.tag;
          size = omega (arith, length-body a (fits-piece a valid), length-sealed (body_of a), few_rows a valid);
        }

    can-renew : CanRenew s tag n last
    can-renew = subst (CanRenew s tag n) ends.is (record { entry = merged-entry; old = from.entry; recorded = from.recorded; id = from.id })

    merged-true : (h : List Change) (made : List Made) (touched : List (List ℕ)) → IsBorneOut s h held made touched → DigestsTellFor held made touched (ledger s) → IsTrueArtefact (world s) h (a_piece last)
    merged-true h made touched borne tells =
        let a : Piece = merged ends.before ends.level1.1 in
        let entry = merged-entry false 0 0 in
        let base = base-by s h held made touched borne tells from.now
        (from_copy from.now (λ level1. kind (sym from.has.object.fields.kind ∙ level1)) (from_piece from.entry from.now from.recorded from.has)) in
        subst (λ x. IsTrueArtefact (world s) h (a_piece x)) ends.is (record {
          agrees = reached_agrees rs f tag at e.level1s (world s) h from.now a (sym (tree-told s.catalog)) a-tree borne.keeps.history level1s-fit
              (λ y has. level1-by s h held made touched borne tells y.1 (level1-from s held sound e at_hand y.0 y.1 has)) from.has.object.valid base reached;
          valid = valid;
          within = (entry.there, entry.checkpoint.1, entry.high);
          of = omega (arith, entry.file.number, slice_get_within (ledger s).files (a.file - 1) entry.file.datafile entry.file.is);
        })

  -- the same of a copy that may have changed
  abbrev FromTo : ℕ → List ℕ → ℕ → ℕ → Option Piece → Type 0
  FromTo f tag at n None = Unit {0}
  FromTo f tag at n (Some last) = FromCopy f tag at n last

  can-to : (f : ℕ) (tag : List ℕ) (at n : ℕ) (o : Option Piece) → FromTo f tag at n o → CanRenewTo s tag n o
  can-to f tag at n None from = tt
  can-to f tag at n (Some last) from = can-renew f tag at n last from

  true-to : (f : ℕ) (tag : List ℕ) (at n : ℕ) (o : Option Piece) → FromTo f tag at n o → (h : List Change) (made : List Made) (touched : List (List ℕ)) → IsBorneOut s h held made touched → DigestsTellFor held made touched (ledger s) → IsTrueTo (world s) h o
  true-to f tag at n None from h made touched borne tells = tt
  true-to f tag at n (Some last) from h made touched borne tells = merged-true f tag at n last from h made touched borne tells

  from-by : (f : ℕ) (tag : List ℕ) (at : ℕ) (p : PieceEntry) (now o : Option Piece) → Contains (ledger s).pieces p → p.copy ≡ true → p.tag ≡ tag → copy_at e.bases p.id ≡ now → IsMerged rs f tag at e.level1s now o → FromTo f tag at p.id o
  from-by f tag at p now None has copy tagged is merges = tt
  from-by f tag at p None (Some last) has copy tagged is merges = absurd merges
  from-by f tag at p (Some a) (Some last) has copy tagged is merges = record {
    entry = p;
    recorded = has;
    copy = copy;
    tagged = tagged;
    id = refl;
    now = a;
    has = (copy_at_hand held rs (in_place s) e p a valid-rules at_hand (piece-has s.catalog p has) (copy-kind p.kind p (rule-of p has).kind copy)).0 is;
    takes = merges;
  }

  taken-in : (p : PieceEntry) → Contains (pieces rs) p → Contains (ledger s).pieces p
  taken-in p has = subst (λ ps. Contains ps p) (pieces-told s.catalog) has

  module _ (tag : List ℕ) (at : ℕ) where
    renewed-from : (x : ℕ × Renewed) → IsRenewed rs e x.0 tag at x.1 → FromTo x.0 tag at x.1.id x.1.merged
    renewed-from x is = subst (λ n. FromTo x.0 tag at n x.1.merged) (sym is.id)
        (from-by x.0 tag at is.copy (copy_at e.bases is.copy.id) x.1.merged (taken-in is.copy is.taken.held) is.taken.passes.copy is.taken.passes.is refl is.merged)

    can-all : (xs : List (ℕ × Renewed)) → AreRenewed s e tag at xs → renewed_refusal s xs ≡ None → CanRenewAll s tag xs
    can-all xs are is = record {
      each = each-in (λ (x : ℕ × Renewed). CanRenewTo s tag x.1.id x.1.merged) xs (λ x has. can-to x.0 tag at x.1.id x.1.merged (renewed-from x (are.each x has)));
      apart = renewed-apart s e tag at xs sound are;
      room = ids-left s xs is;
    }

    true-all : (xs : List (ℕ × Renewed)) (h : List Change) (made : List Made) (touched : List (List ℕ)) → AreRenewed s e tag at xs → IsBorneOut s h held made touched → DigestsTellFor held made touched (ledger s) → All (λ x. IsTrueTo (world s) h x.1.merged) xs
    true-all xs h made touched are borne tells = each-in (λ (x : ℕ × Renewed). IsTrueTo (world s) h x.1.merged) xs (λ x has. true-to x.0 tag at x.1.id x.1.merged (renewed-from x (are.each x has)) h made touched borne tells)

-- What was done

renews-on : (o : Option ℕ) (s : State) (tag : List ℕ) (h : List Change) (objects : Held) (made : List Made) (touched : List (List ℕ)) (said : List Line) (e : Effect) (t : State) (after : Held) → IsBorneOut s h objects made touched → DigestsTellFor objects made touched (ledger s)
    → RenewsTo s objects tag o (done said e t) → LeavesObjects e objects after → IsBorneOut t (h ++ e.changes) after (made ++ e.made) touched
renews-on None s tag h objects made touched said e t after stands tell does effect = absurd does
renews-on (Some at) s tag h objects made touched said e t after stands tell does effect =
    let xs : List (ℕ × Renewed) = does.copies in
    let by : Effect = renewing s tag xs in
    let q : State = after_copies s tag xs in
    let is = done-of (renewed_refusal s xs) _ said by e q t does.is in
    let can = can-all s objects stands.state does.evidence does.at_hand tag at xs does.are is.0 in
    let agree = true-all s objects stands.state does.evidence does.at_hand tag at xs h made touched does.are stands tell in
    unchanged q by h objects made touched e t after refl is.1 is.2 effect (λ left.
    borne-beside q h left.put after (made ++ by.made) touched touched (renewals-borne xs s tag h objects made touched left.put can agree stands left.puts)
    (stand-without (copies_gone xs) left.put after touched (ledger q) left.removes (old-free xs s tag stands.state can)))

pub renew-on : (tag : List ℕ) (until : Option Until) → LeadsOnBy (RecoverCopy tag until)
renew-on tag until s h objects made touched said e t after well stands tell none does effect =
    renews-on (recover_target s until) s tag h objects made touched said e t after stands tell does effect

-- what it leaves, whatever was ever written
pub record LeavesRenewed (s : State) (e : Effect) (t : State) : Type 0 where
  pub sound : IsSound t
  pub saved : t.catalog.saved ≡ s.catalog.saved
  pub ids : (ledger t).base.next_id + 68 ≤ 4294967295
  pub given : (ledger s).base.next_id ≤ (ledger t).base.next_id
  pub puts : All (λ x. IsNewCopy s x.name) e.puts
  pub removes : (name : List ℕ) → IsObjectName (ledger t) name → ¬ Contains e.removes name
  pub parts : (id : ℕ) → ¬ Contains e.removes (site_name id)
  pub rolls : (id : ℕ) → ¬ Contains e.removes (roll_name id)

pub leaves-renewed : (o : Option ℕ) (s : State) (tag : List ℕ) (objects : Held) (said : List Line) (e : Effect) (t : State) → IsSound s → RenewsTo s objects tag o (done said e t) → LeavesRenewed s e t
leaves-renewed None s tag objects said e t sound does = absurd does
leaves-renewed (Some at) s tag objects said e t sound does =
    let xs : List (ℕ × Renewed) = does.copies in
    let q : State = after_copies s tag xs in
    let is = done-of (renewed_refusal s xs) _ said (renewing s tag xs) e q t does.is in
    let can = can-all s objects sound does.evidence does.at_hand tag at xs does.are is.0 in
    subst (λ x. LeavesRenewed s e x) is.2 (subst (λ (x : Effect). LeavesRenewed s x q) is.1 (record {
      sound = renewals-sound xs s tag sound can;
      saved = renewals-saved xs s tag;
      ids = omega (arith, can.room, renewals-next xs s tag);
      given = omega (arith, renewals-next xs s tag);
      puts = copies-new xs s s tag (omega arith) can;
      removes = old-free xs s tag sound can;
      parts = old-no-part xs;
      rolls = old-no-roll xs;
    }))

pub renew-stays : (tag : List ℕ) (until : Option Until) → StaysBy (RecoverCopy tag until)
renew-stays tag until s objects said e t well sound none accepted does =
    let leaves = leaves-renewed (recover_target s until) s tag objects said e t sound does in
    (leaves.sound, leaves.saved ∙ none)
