-- The records of a catalog tell a ledger.
use Rattle.std.specs.Prelude.{sum_by}
use Rattle.std.proofs.Common.{◌≡◌, ◌∙◌, ℕ, suc, ◌-◌, ◌<◌, ◌≤◌, Bool, cond, List, [], ◌∷◌, length, get_or, map, refl, ap, sym, subst, arith, All, Contains}
use Rattle.std.proofs.lemmas.{Bool.{le-leb}, List.{length-map, Elements.{All-map, Contains-get_or}, Sums.{sum_by-cons}}}
use Rattle.rm_history.specs.{Tree.{IsThere, parent_of, reset_of, end_of}, declared.world.Datafile.{Datafile}}
use Rattle.rm_catalog.specs.{Facts.{BeginsOn, IsCreatedOn, blocks_to}, Rules.{HasDatabase, IsCatalog}, Trees.{nodes}}
use Rattle.rm_catalog.{specs.declared.record.{DatafileEntry.{DatafileEntry}, Record.{Record}}, proofs.Trees.{few_nodes, some_node}}
use Rattle.rm_catalog.proofs.{Datafiles.{datafile-rule}, DatafileNumbers.{entries, entry-record, file-number}}
use Rattle.rm_catalog.proofs.Incarnations.{entry-of, parent-is, reset-is}
use Rattle.rm_catalog.specs.declared.record.Record.TheVariants as records
use Rattle.rm_evidence.{specs.Database.{created_by, datafiles}, proofs.Files.{datafiles-are}}
use Rattle.rm_catalog_typed.{specs.LedgerFacts.{AreDatafiles, AreIncarnations, IsBranch, IsCreated}, proofs.Told.{end-is, on-incarnation}}

-- the incarnations
branch : (rs : List Record) (i : ℕ) → IsCatalog rs → IsThere (nodes rs) i → 1 < i → IsBranch (nodes rs) i
branch rs i c there later =
    let e = entry-of rs i c there in
    let b = e.rule.origin.branch (omega arith) in
    let on = on-incarnation rs e.entry.parent (BeginsOn e.entry) c b.parent in
    let parent : parent_of (nodes rs) i ≡ e.entry.parent = parent-is rs i e.entry c e.found in
    let from = ap (reset_of (nodes rs)) parent in
    let to = ap (end_of (nodes rs)) parent in
    let own = reset-is rs i e.entry c e.found in
    record {
      parent = (omega arith, omega arith);
      reset = omega arith;
      end = omega arith;
    }

pub incarnations : (rs : List Record) → IsCatalog rs → HasDatabase rs → AreIncarnations (nodes rs)
incarnations rs c database =
    let some = some_node rs c database in
    record {
      some = some;
      few = few_nodes rs c;
      first = let e = entry-of rs 1 c (omega arith, omega arith) in parent-is rs 1 e.entry c e.found ∙ e.rule.origin.first e.number;
      branches = λ i later high. branch rs i c (omega arith, high) later;
      ranges = λ i there.
          let e = entry-of rs i c there in
          let r = reset-is rs i e.entry c e.found in
          let n = end-is rs i e.entry c e.found in
          let range = e.rule.range in
          (omega arith, omega arith, omega arith);
    }

-- the datafiles
created : (rs : List Record) (f : DatafileEntry) → IsCatalog rs → Contains rs (records.Datafile f) → IsCreated (nodes rs) (created_by f)
created rs f c has =
    let rule = datafile-rule rs f c has in
    let on = on-incarnation rs f.inc (IsCreatedOn f) c rule.creation in
    record { there = on.there; creation = (omega arith, omega arith); blocks = rule.blocks }

sum-to : (m : ℕ) (rs : List Record) → ((f : DatafileEntry) → Contains (entries rs) f → f.file ≤ m) → sum_by (λ d. d.blocks) (datafiles rs) ≤ sum_by (blocks_to m) rs
sum-to m [] low = omega arith
sum-to m (records.Datafile x ∷ rs) low =
    let back = sum-to m rs (λ f has. low f (suc has.0, (omega arith), has.2)) in
    let split = sum_by-cons (blocks_to m) (records.Datafile x) rs in
    let under : x.file ≤ m = low x (0, omega arith, refl) in
    let here : blocks_to m (records.Datafile x) ≡ x.blocks = ap (λ (b : Bool). cond b x.blocks 0) (le-leb x.file m under) in
    let own = sum_by-cons (λ (d : Datafile). d.blocks) (created_by x) (datafiles rs) in
    omega arith
sum-to m (r ∷ rs) low = let back = sum-to m rs low in let split = sum_by-cons (blocks_to m) r rs in omega arith

pub long : (rs : List Record) → length (datafiles rs) ≡ length (entries rs)
long rs = ap length (datafiles-are rs) ∙ length-map (entries rs) created_by

-- what the last datafile tells
record Few (rs : List Record) : Type 0 where
  pub few : length (datafiles rs) ≤ 64
  pub room : sum_by (λ d. d.blocks) (datafiles rs) ≤ 131072

few-files : (rs : List Record) → IsCatalog rs → Few rs
few-files rs c = decide (entries rs) refl
  where
    none : (ds : List Datafile) → ds ≡ [] → sum_by (λ d. d.blocks) ds ≤ 131072
    none [] e = omega arith
    none (d ∷ ds) e = absurd cc

    decide : (es : List DatafileEntry) → entries rs ≡ es → Few rs
    decide [] e =
        let n = long rs in
        let zero_is = ap length e in
        record { few = omega arith; room = none (datafiles rs) (datafiles-are rs ∙ ap (map created_by) e) }
    decide (d ∷ es) e =
        let n = long rs in
        let some : 0 < length (entries rs) = let l = ap length e in omega arith in
        let k = length (entries rs) - 1 in
        let lt : k < length (entries rs) = omega arith in
        let f = get_or (entries rs) k d in
        let number = file-number rs k d c lt in
        let rule = datafile-rule rs f c (entry-record rs f (Contains-get_or (entries rs) k d lt)) in
        let sum = sum-to f.file rs (λ g has.
        let own = file-number rs has.0 g c has.1 in
        let same = ap (λ (x : DatafileEntry). x.file) has.2 in
        omega arith) in
        record { few = omega arith; room = omega arith }

pub datafiles-fit : (rs : List Record) → IsCatalog rs → AreDatafiles (nodes rs) (datafiles rs)
datafiles-fit rs c =
    let f = few-files rs c in
    record {
      each = subst (All (IsCreated (nodes rs))) (sym (datafiles-are rs)) (All-map (IsCreated (nodes rs)) created_by (entries rs) (λ k d lt. created rs (get_or (entries rs) k d) c (entry-record rs (get_or (entries rs) k d) (Contains-get_or (entries rs) k d lt))));
      few = f.few;
      room = f.room;
    }
