-- The states that the statements leave, put together from their parts.
use Rattle.std.specs.Option.{option_map}
use Rattle.std.proofs.Common.{◌≡◌, ◌+◌, ◌-◌, ◌∙◌, ℕ, Bool, cond, List, Option, Some, None, [], ◌∷◌, ◌++◌, ap, slice_index_or, slice_set}
use Rattle.rm_base.specs.declared.block.Change.{Change}
use Rattle.rm_blocks.specs.File.{File, created, written}
use Rattle.rm_history.specs.declared.world.Datafile.{Datafile}
use Rattle.rm_lang_statement.specs.declared.command.WriteForm.{WriteForm}
use Rattle.rm_redo.specs.{Logs.{Logs}, Online.{with_change}}
use Rattle.rm_track.specs.Bitmaps.{Tracked, fresh, mark_at, with_file as with_tracked}
use Rattle.rm_catalog_typed.specs.{Changes.{with_file}, TypedCatalog.{TypedCatalog}}
use Rattle.rm_machine.specs.{CreateDatafile.{new_datafile, next_file, with_datafile}, Marks.{one_further}, Write.{change_of, with_write}}
use Rattle.rm_machine.specs.{State.{ledger}, Tracked.{tracks}, declared.state.{Instance.{Instance}, State.{State}}}

-- what is in place, with the change in its row
abbrev pub with_row : List (Option File) → Change → List (Option File)
with_row place c = slice_set place (c.file - 1) (option_map (λ x. written x c.block c.scn c.content) (slice_index_or place (c.file - 1) None))

abbrev changed : TypedCatalog → Instance → Change → State
changed r i c = record { catalog = r; instance = record i { logs = with_change i.logs c; place = with_row i.place c; tracker = mark_at i.tracker c.file c.block } }

-- p is one SCN further than s, and then the change goes to the logs and to its row, and its block is marked
pub after-write : (s p : State) (w : WriteForm) (c : Change) (logs : Logs) (old new : List (Option File)) (tracker : List Tracked)
    → c ≡ change_of s w → p.catalog ≡ one_further s → p.instance ≡ s.instance → logs ≡ with_change p.instance.logs c → old ≡ p.instance.place → new ≡ with_row old c → tracker ≡ mark_at p.instance.tracker c.file c.block
    → record { catalog = p.catalog; instance = record p.instance { logs = logs; place = new; tracker = tracker } } ≡ with_write s w
after-write s p w c logs old new tracker made catalog instance logged took put marked =
    let row : new ≡ with_row p.instance.place c = put ∙ ap (λ x. with_row x c) took in
    let parts : record { catalog = p.catalog; instance = record p.instance { logs = logs; place = new; tracker = tracker } } ≡ changed p.catalog p.instance c = λ i. record { catalog = p.catalog; instance = record p.instance { logs = logged i; place = row i; tracker = marked i } } in
    let whole : changed p.catalog p.instance c ≡ changed (one_further s) s.instance (change_of s w) = λ i. changed (catalog i) (instance i) (made i) in
    parts ∙ whole

-- with datafile n in the catalog and in its place, and tracked where changes are
abbrev added : TypedCatalog → Instance → Bool → ℕ → Datafile → State
added r i b n d = record {
  catalog = with_file r d;
  instance = record i { place = i.place ++ Some (created n d.inc d.creation d.blocks) ∷ []; tracker = cond b (with_tracked i.tracker (fresh n d.blocks (d.creation + 1))) i.tracker };
}

-- p is one SCN further than s, and then the datafile comes to the catalog and into its place, and is tracked where changes are
pub after-datafile : (s p : State) (blocks n : ℕ) (d : Datafile) (b : Bool) (catalog : TypedCatalog) (x : File) (place : List (Option File)) (tracker : List Tracked)
    → n ≡ next_file s → d ≡ new_datafile s blocks → b ≡ tracks s.instance.is_open (ledger s) → p.catalog ≡ one_further s → p.instance ≡ s.instance → catalog ≡ with_file p.catalog d
    → x ≡ created n d.inc d.creation d.blocks → place ≡ p.instance.place ++ Some x ∷ [] → tracker ≡ cond b (with_tracked p.instance.tracker (fresh n d.blocks (d.creation + 1))) p.instance.tracker
    → record { catalog = catalog; instance = record p.instance { place = place; tracker = tracker } } ≡ with_datafile s blocks
after-datafile s p blocks n d b catalog x place tracker number made is_tracked went instance grew empty put marks =
    let stands : place ≡ p.instance.place ++ Some (created n d.inc d.creation d.blocks) ∷ [] = put ∙ ap (λ (y : File). p.instance.place ++ Some y ∷ []) empty in
    let parts : record { catalog = catalog; instance = record p.instance { place = place; tracker = tracker } } ≡ added p.catalog p.instance b n d = λ i. record { catalog = grew i; instance = record p.instance { place = stands i; tracker = marks i } } in
    let whole : added p.catalog p.instance b n d ≡ added (one_further s) s.instance (tracks s.instance.is_open (ledger s)) (next_file s) (new_datafile s blocks) = λ i. added (went i) (instance i) (is_tracked i) (number i) (made i) in
    parts ∙ whole
