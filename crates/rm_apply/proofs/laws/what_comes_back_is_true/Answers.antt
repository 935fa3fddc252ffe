use Rattle.std.proofs.lemmas.List.Elements.{All-contains}
use Rattle.rm_base.proofs.Lists.{map_to}
use Rattle.rm_blocks.specs.File.{File}
use Rattle.rm_evidence.specs.{Known.{known_of}, Database.{world_of}}
use Rattle.rm_apply.{specs.Told.{IsTold}, proofs.States.{rows-are-states}}
use Rattle.rm_apply.proofs.laws.what_comes_back_is_true.Goals as goal

pub returns : goal.returns
returns c = λ held rs place i s r tells h x history agrees has.
    let w = world_of rs in
    let e = known_of tells.evidence in
    rows-are-states w e i s x.file h x history agrees
    ((tells.files.numbers.exact x.file).0 (map_to (λ (y : File). y.file) r.files x has))
    (All-contains (λ (y : File). IsTold w e i s y.file y) r.files x tells.files.each has)
