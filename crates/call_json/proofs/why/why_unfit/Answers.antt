use Rattle.call_json.proofs.why.why_unfit.Goals as goal

pub returns : goal.returns
returns g c = (c.in_ok-explained.explained, c.in_ok-explained.ensures, c.in_ok-why.ensures)
