use Rattle.std.proofs.Common.{rules, ◌≡◌, refl}
use Rattle.sha2.specs.Sha256.{sha256}
use Rattle.rm_redo.specs.LogFormat.{IsLogFile, spelling}
use Rattle.rm_step_upkeep.proofs.Read.{log-read, other-log}
use Rattle.rm_step_upkeep.proofs.finding.log_in.Goals as goal

pub returns-then-not-is_log_here : goal.returns-then-not-is_log_here
returns-then-not-is_log_here c =
    let valid : IsLogFile c.in-Some.read.0 = search rules in
    let spelled : c.args.bytes.now ≡ spelling c.in-Some.read.0 = search rules in
    let elsewhere = c.if-not-is_log_here.ensures.1 in
    other-log c.args.state.now c.args.id c.args.bytes.now c.in-Some.read.0 valid spelled (λ here. let clash = elsewhere here in absurd cc)

pub returns : goal.returns
returns c =
    let valid : IsLogFile c.in-Some.read.0 = search rules in
    let spelled : c.args.bytes.now ≡ spelling c.in-Some.read.0 = search rules in
    let digest : c.in-Some.read.1 ≡ sha256 c.args.bytes.now = search rules in
    log-read c.args.state.now c.args.id c.in-Some.read.0 c.args.bytes.now c.in-Some.read.1 valid spelled digest (c.if-not-is_log_here.ensures.0 refl)
