use Rattle.session_workspace.proofs.serving.serve_texts.Goals as goal

pub returns : goal.returns
returns g c = record {
  first = c.new-workspace.result;
  none_open = c.new-workspace.ensures;
  last = c.in_ok-asked.ensures.0;
  served = c.in_ok-asked.ensures.2;
  has_asked = c.in_ok-asked.ensures.1;
}
