-- Records keep their artefacts.
use Rattle.std.proofs.Common.{◌≡◌, ◌-◌, ◌∙◌, ◌⊎◌, inl, inr, ℕ, List, Option, Some, None, IsSomeAnd, refl, sym, subst, slice_get, Contains}
use Rattle.std.proofs.lemmas.List.Elements.{All-weaker}
use Rattle.rm_base.specs.Store.{Held}
use Rattle.rm_catalog.specs.declared.record.{LogEntry.{LogEntry}, PieceEntry.{PieceEntry}, SetEntry.{SetEntry}}
use Rattle.rm_catalog_typed.specs.{Ledger.{Ledger}, Worlds.{database_of}}
use Rattle.rm_evidence.specs.{Database.{Database}, Names.{log_name, piece_name, set_name}, Objects.{HasSetFields, IsAsCreated}}
use Rattle.rm_history.specs.declared.world.Datafile.{Datafile}
use Rattle.rm_piece.specs.declared.set.{Set.{Set}, SetFile.{SetFile}}
use Rattle.rm_machine.specs.{Effect.{Made, LeavesObjects, no_effect}, Names.{IsObjectName, of_log, of_piece, of_set}}
use Rattle.rm_machine.specs.Machine.{HaveArtefacts, HasLogArtefact, HasPieceArtefact, HasSetArtefact, HoldsUnder}

-- what stands under the names of the records that stay goes on to do so
abbrev pub StandOn : Held → Held → List (List ℕ) → List (List ℕ) → Ledger → Ledger → Type 0
StandOn before after touched touched' l l' =
    (name bytes : List ℕ) → IsObjectName l name → IsObjectName l' name → HoldsUnder before touched name bytes → HoldsUnder after touched' name bytes

-- it is the same database, which has each datafile that was there
pub record GrowsTo (b c : Database) : Type 0 where
  pub dbid : b.dbid ≡ c.dbid
  pub files : (k : ℕ) (d : Datafile) → slice_get b.files k ≡ Some d → slice_get c.files k ≡ Some d

pub stays-so : (b : Database) → GrowsTo b b
stays-so b = record { dbid = refl; files = λ k d is. is }

some-also : (o p : Option Datafile) (P : Datafile → Type 0) → ((d : Datafile) → o ≡ Some d → p ≡ Some d) → IsSomeAnd o P → IsSomeAnd p P
some-also None p P also is = absurd is
some-also (Some d) p P also is = subst (λ (o : Option Datafile). IsSomeAnd o P) (sym (also d refl)) is

-- a set has the fields of its record there too
pub fields-grow : (b c : Database) (e : SetEntry) (a : Set) → GrowsTo b c → HasSetFields b e a → HasSetFields c e a
fields-grow b c e a grows is = record {
  dbid = is.dbid ∙ grows.dbid;
  inc = is.inc;
  checkpoint = is.checkpoint;
  parts = is.parts;
  files = All-weaker (λ (m : SetFile). IsSomeAnd (slice_get b.files (m.piece.file - 1)) (IsAsCreated m)) (λ (m : SetFile). IsSomeAnd (slice_get c.files (m.piece.file - 1)) (IsAsCreated m))
      (λ m has. some-also _ _ (IsAsCreated m) (grows.files (m.piece.file - 1)) has) a.members is.files;
}

-- records of which each was there, or has its artefact
pub kept-on : (before after : Held) (made made' : List Made) (touched touched' : List (List ℕ)) (l l' : Ledger)
    → GrowsTo (database_of l) (database_of l') → StandOn before after touched touched' l l'
    → ((a : Made) → Contains made a → Contains made' a)
    → ((e : LogEntry) → Contains l'.logs e → Contains l.logs e ⊎ HasLogArtefact after made' touched' e)
    → ((e : PieceEntry) → Contains l'.pieces e → Contains l.pieces e ⊎ HasPieceArtefact after made' touched' e)
    → ((e : SetEntry) → Contains l'.sets e → Contains l.sets e ⊎ HasSetArtefact after made' touched' (database_of l') e)
    → HaveArtefacts before made touched l → HaveArtefacts after made' touched' l'
kept-on before after made made' touched touched' l l' grows stand more logs pieces sets kept = record {
  logs = λ e has. elim (logs e has) [
    | inr new ↦ new
    | inl old ↦
        let was = kept.logs e old in
        record { artefact = was.artefact; is = more _ was.is; fields = was.fields; digest = was.digest; there = stand (log_name e.id) _ (of_log e old) (of_log e has) was.there }
  ];
  pieces = λ e has. elim (pieces e has) [
    | inr new ↦ new
    | inl old ↦
        let was = kept.pieces e old in
        record { artefact = was.artefact; is = more _ was.is; fields = was.fields; digest = was.digest; there = stand (piece_name e.copy e.id) _ (of_piece e old) (of_piece e has) was.there }
  ];
  sets = λ e has. elim (sets e has) [
    | inr new ↦ new
    | inl old ↦
        let was = kept.sets e old in
        record {
          artefact = was.artefact;
          is = more _ was.is;
          fields = fields-grow (database_of l) (database_of l') e was.artefact grows was.fields;
          digest = was.digest;
          there = stand (set_name e.id) _ (of_set e old) (of_set e has) was.there;
        }
  ];
}

-- the same objects under the names of the records that stay
pub stand-where : (before after : Held) (touched : List (List ℕ)) (l l' : Ledger) → ((n : List ℕ) → IsObjectName l' n → after n ≡ before n) → StandOn before after touched touched l l'
stand-where before after touched l l' same name bytes names names' (inl was) = inl was
stand-where before after touched l l' same name bytes names names' (inr is) = inr (same name names' ∙ is)

-- the same objects
pub stand-same : (before after : Held) (touched : List (List ℕ)) (l l' : Ledger) → ((n : List ℕ) → after n ≡ before n) → StandOn before after touched touched l l'
stand-same before after touched l l' same = stand-where before after touched l l' (λ n names. same n)

-- without an effect the objects stay
pub no-effect : (before after : Held) → LeavesObjects no_effect before after → (n : List ℕ) → after n ≡ before n
no-effect before after is n = is.removes n ∙ is.puts n

-- a name of some of the records is one of theirs
pub names-of : (l l' : Ledger) → ((e : LogEntry) → Contains l'.logs e → Contains l.logs e) → ((e : PieceEntry) → Contains l'.pieces e → Contains l.pieces e) → ((e : SetEntry) → Contains l'.sets e → Contains l.sets e)
    → (n : List ℕ) → IsObjectName l' n → IsObjectName l n
names-of l l' logs pieces sets n (of_log e has) = of_log e (logs e has)
names-of l l' logs pieces sets n (of_piece e has) = of_piece e (pieces e has)
names-of l l' logs pieces sets n (of_set e has) = of_set e (sets e has)
