-- The copies of a duplicate are what the history of the source made.
use Rattle.std.{specs.List.{enumerate_from}, proofs.Common.{◌≡◌, ◌+◌, ◌∙◌, ℕ, List, [], ◌∷◌, Option, Some, map, refl, ap, sym, subst}}
use Rattle.rm_apply.specs.Files.{AreExactly}
use Rattle.rm_base.specs.{Store.{Held}, declared.block.Change.{Change}}
use Rattle.rm_blocks.specs.File.{File}
use Rattle.rm_catalog.specs.declared.record.Record.{Record}
use Rattle.rm_catalog_typed.specs.TypedCatalog.{records_of}
use Rattle.rm_dup.specs.{Copies.{copy_as}, Duplicate.{IsDuplicate}, declared.database.Duplicate.{Duplicate}}
use Rattle.rm_evidence.specs.{Known.{known_of}, declared.evidence.InPlace.{InPlace}}
use Rattle.rm_history.specs.{State.{states}, World.{blocks_of}, declared.world.World.{World}}
use Rattle.rm_lang_words.specs.Duplicate.{DuplicateSaid}
use Rattle.rm_machine.specs.{Machine.{DigestsTell, IsSoundBy, Machine}, Recovery.{AreMadeAt, file_at, in_place}, State.{world}}
use Rattle.rm_machine.{specs.declared.state.State.{State}, proofs.Told.{tells-files}}
use Rattle.rm_machine_laws.{specs.Holds.{View}, proofs.{Agreeing.{agreed}, Told.{files-made}}}
use Rattle.rm_plan.specs.Plan.{IsFileTarget}
use Rattle.rm_tool_opening.specs.Opening.{IsSource}
use Rattle.rm_tool_duplicate.specs.{Asked.{Sides, target_inc}, Duplicated.{AreTrueCopies, IsMade, Makes}}

-- the copies have the rows of the datafiles
copied-rows : (dbid s k : ℕ) (files : List File) → map (λ a. a.rows) (map (copy_as dbid s) (enumerate_from k files)) ≡ map (λ x. x.rows) files
copied-rows dbid s k [] = refl
copied-rows dbid s k (x ∷ xs) = ap (λ rs. x.rows ∷ rs) (copied-rows dbid s (k + 1) xs)

module _ (w : World) (h : List Change) (i s : ℕ) where
  made-numbers : (ns : List ℕ) → map (λ x. x.file) (map (file_at w h i s) ns) ≡ ns
  made-numbers [] = refl
  made-numbers (n ∷ ns) = ap (λ ms. n ∷ ms) (made-numbers ns)

  made-rows : (ns : List ℕ) → map (λ x. x.rows) (map (file_at w h i s) ns) ≡ map (λ f. states w h i s f (blocks_of w f)) ns
  made-rows [] = refl
  made-rows (n ∷ ns) = ap (λ rs. states w h i s n (blocks_of w n) ∷ rs) (made-rows ns)

  true-copies : (held : Option Held) (rs : List Record) (place : InPlace) (dbid : ℕ) (d : Duplicate) (is : IsDuplicate held rs place i s dbid d) → AreMadeAt w h i s is.recovered.files → AreTrueCopies w h i s d
  true-copies held rs place dbid d is made =
      let numbers : d.from ≡ made.numbers = is.from ∙ ap (λ (xs : List File). map (λ x. x.file) xs) made.are ∙ made-numbers made.numbers in
      record {
        datafiles = subst (AreExactly (IsFileTarget w i s)) (sym numbers) made.exact;
        rows = ap (λ copies. map (λ a. a.rows) copies) is.pieces
            ∙ copied-rows dbid s 1 is.recovered.files
            ∙ ap (λ (xs : List File). map (λ x. x.rows) xs) made.are
            ∙ made-rows made.numbers
            ∙ ap (λ ns. map (λ f. states w h i s f (blocks_of w f)) ns) (sym numbers);
      }

-- so what is told of it is what its history made
made-of : (from : Option Held) (s : State) (i at dbid : ℕ) (d : Duplicate) (m : Machine) → from ≡ Some m.objects → m.state ≡ Some s → IsSoundBy m.state m.history m.objects m.made m.touched
    → IsDuplicate from (records_of s.catalog) (in_place s) i at dbid d → DigestsTell m → AreTrueCopies (world s) m.history i at d
made-of from s i at dbid d m store state sound is digests =
    let both = agreed from s m is.tells.evidence store state sound is.tells.is.at_hand digests in
    true-copies (world s) m.history i at from (records_of s.catalog) (in_place s) dbid d is
    (files-made (world s) (known_of is.tells.evidence) i at m.history both.0 both.1 is.recovered.files (tells-files s from i at is.recovered is.tells))

-- what is made of a source that is shown as it was opened
pub makes : (x : DuplicateSaid) (a : Sides) (v : View) (s : State) (d : Duplicate) → IsSource a.from a.source v → v.state ≡ Some s → IsMade x a s d → Makes x a d
makes x a v s d source shown made = record {
  view = v;
  source = source;
  state = s;
  shown = shown;
  is = made;
  made = λ r holds tell.
      let o = source.opens r holds tell in
      (o.0, o.1, (o.2 ∙ shown, λ digests. made-of a.from s (target_inc x s) x.until x.dbid d o.0 o.3.store (o.2 ∙ shown) o.3.sound made.is digests));
}
