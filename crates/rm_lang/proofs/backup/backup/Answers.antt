use Rattle.std.proofs.Common.{◌∙◌, codes, ◌∷◌, []}
use Rattle.rm_lang_token.specs.declared.token.Token.TheVariants.{Word, Sign}
use Rattle.rm_lang.proofs.{Listed.{joined}, Backups.{tested}}
use Rattle.rm_lang.proofs.backup.backup.Goals as goal

pub merge-requires : goal.merge-requires
merge-requires c = (tested c.args.form.now c.requires).merge

pub tag-requires : goal.tag-requires
tag-requires c = (tested c.args.form.now c.requires).tag

pub during-requires : goal.during-requires
during-requires c = (tested c.args.form.now c.requires).during

pub returns : goal.returns
returns c =
    let word = rw c.new-spelling.ensures at c.in_ok-word.ensures in
    let kind = rw word at c.in_ok-append.ensures in
    let level = rw kind at c.in_ok-append-2.ensures in
    let merge = rw level at c.in_ok-append-3.ensures in
    let files = rw merge at c.in_ok-append-4.ensures in
    let sets = rw files at c.in_ok-append-5.ensures in
    let tag = rw sets at c.in_ok-append-6.ensures in
    let keep = rw tag at c.in_ok-append-7.ensures in
    let during = rw keep at c.in_ok-append-8.ensures in
    let told = (rw during at c.in_ok-sign.ensures) ∙ joined (Word (codes "BACKUP") ∷ []) c.in_ok-kind.field-0 c.in_ok-level.field-0 c.in_ok-merge.field-0 c.in_ok-files.field-0 c.in_ok-sets.field-0 c.in_ok-tag.field-0 c.in_ok-keep.field-0 c.in_ok-during.field-0 (Sign 59 ∷ []) in
    rw (c.in_ok-kind.ensures, c.in_ok-level.ensures, c.in_ok-merge.ensures, c.in_ok-files.ensures, c.in_ok-sets.ensures, c.in_ok-tag.ensures, c.in_ok-keep.ensures, c.in_ok-during.ensures) at told
