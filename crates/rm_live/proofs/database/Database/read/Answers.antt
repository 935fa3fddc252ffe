use Rattle.std.proofs.{Common.{◌≡◌, ◌∙◌, List, Some, None, refl, ap, sym, length, position}, lemmas.Option.{slice_get_read}}
use Rattle.rm_blocks.specs.File.{File}
use Rattle.rm_live.proofs.Files.{is_file, place-some, row_at-some, row_at-none}
use Rattle.rm_live.proofs.database.Database.read.Goals as goal

pub returns-in_err-k : goal.returns-in_err-k
returns-in_err-k c =
    let files : List File = c.args.self.now.files.items in
    let none : position (is_file c.args.file) files ≡ None = ap (position (is_file c.args.file)) (sym c.deref.ensures.value) ∙ sym c.place.ensures ∙ c.in_err-k.was in
    c.from_residual.ensures ∙ sym (row_at-none files c.args.file c.args.block none)

pub returns : goal.returns
returns c =
    let files : List File = c.args.self.now.files.items in
    let k = c.in_ok-k.k in
    let x : File = c.index.result.now in
    let some : position (is_file c.args.file) files ≡ Some k = ap (position (is_file c.args.file)) (sym c.deref.ensures.value) ∙ sym c.place.ensures ∙ c.in_ok-k.was in
    let inside = (place-some (is_file c.args.file) files k some).1 in
    let is = slice_get_read files (length files) k x refl inside c.index.ensures in
    c.read.ensures.value ∙ sym (row_at-some files c.args.file c.args.block k x some is)
