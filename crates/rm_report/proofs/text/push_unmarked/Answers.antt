use Rattle.rm_report.proofs.text.push_unmarked.Goals as goal

pub returns : goal.returns
returns c =
    let told = rw c.as_str.ensures at c.write.ensures.bytes in
    rw c.in-Ok.ensures.value at told
