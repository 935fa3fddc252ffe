use Rattle.std.proofs.Common.{◌∙◌, sym}
use Rattle.rm_catalog.specs.declared.record.Record.TheVariants.{Base, Incarnation, Datafile, Log, Mark, Part, Head, Switch}
use Rattle.rm_catalog_bytes.proofs.Records.{record_same, key_made}
use Rattle.rm_catalog_bytes.proofs.reading.decode_record.Goals as goal

pub returns-in-Some-clause-only : goal.returns-in-Some-clause-only
returns-in-Some-clause-only c r fits key is =
    record_same (Base c.in-Some.r) r c.in-Some.ensures.fits fits (key_made c.args.key 1 0 c.in-1.is c.if-key-eq0.true ∙ sym key) (sym c.in-Some.ensures.found ∙ is)

pub returns-in-Some-incarnation_of-clause-only : goal.returns-in-Some-incarnation_of-clause-only
returns-in-Some-incarnation_of-clause-only c r fits key is =
    record_same (Incarnation c.in-Some-incarnation_of.r) r c.in-Some-incarnation_of.ensures.fits fits (key_made c.args.key 2 _ c.in-2.is (sym c.in-Some-incarnation_of.ensures.id) ∙ sym key) (sym c.in-Some-incarnation_of.ensures.found ∙ is)

pub returns-in-Some-datafile_of-clause-only : goal.returns-in-Some-datafile_of-clause-only
returns-in-Some-datafile_of-clause-only c r fits key is =
    record_same (Datafile c.in-Some-datafile_of.r) r c.in-Some-datafile_of.ensures.fits fits (key_made c.args.key 3 _ c.in-3.is (sym c.in-Some-datafile_of.ensures.id) ∙ sym key) (sym c.in-Some-datafile_of.ensures.found ∙ is)

pub returns-in-Some-log_of-clause-only : goal.returns-in-Some-log_of-clause-only
returns-in-Some-log_of-clause-only c r fits key is =
    record_same (Log c.in-Some-log_of.r) r c.in-Some-log_of.ensures.fits fits (key_made c.args.key 4 _ c.in-4.is (sym c.in-Some-log_of.ensures.id) ∙ sym key) (sym c.in-Some-log_of.ensures.found ∙ is)

pub returns-in-Some-mark_of-clause-only : goal.returns-in-Some-mark_of-clause-only
returns-in-Some-mark_of-clause-only c r fits key is =
    record_same (Mark c.in-Some-mark_of.r) r c.in-Some-mark_of.ensures.fits fits (key_made c.args.key 6 _ c.in-6.is (sym c.in-Some-mark_of.ensures.id) ∙ sym key) (sym c.in-Some-mark_of.ensures.found ∙ is)

pub returns-in-Some-part_of-clause-only : goal.returns-in-Some-part_of-clause-only
returns-in-Some-part_of-clause-only c r fits key is =
    record_same (Part c.in-Some-part_of.r) r c.in-Some-part_of.ensures.fits fits (key_made c.args.key 7 _ c.in-7.is (sym c.in-Some-part_of.ensures.id) ∙ sym key) (sym c.in-Some-part_of.ensures.found ∙ is)

pub returns-in-Some-head_of-clause-only : goal.returns-in-Some-head_of-clause-only
returns-in-Some-head_of-clause-only c r fits key is =
    record_same (Head c.in-Some-head_of.r) r c.in-Some-head_of.ensures.fits fits (key_made c.args.key 8 0 c.in-8.is c.if-key-eq0-2.true ∙ sym key) (sym c.in-Some-head_of.ensures.found ∙ is)

pub returns-in-Some-switch_of-clause-only : goal.returns-in-Some-switch_of-clause-only
returns-in-Some-switch_of-clause-only c r fits key is =
    record_same (Switch c.in-Some-switch_of.r) r c.in-Some-switch_of.ensures.fits fits (key_made c.args.key 10 _ c.in-10.is (sym c.in-Some-switch_of.ensures.id) ∙ sym key) (sym c.in-Some-switch_of.ensures.found ∙ is)
