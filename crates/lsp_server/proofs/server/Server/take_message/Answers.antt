use Rattle.std.proofs.Common.{map}
use Rattle.std.specs.Prelude.{option_map}
use Rattle.serde_json.specs.View.{view}
use Rattle.lsp_server.proofs.RequestLemmas.{takes_request}
use Rattle.lsp_server.proofs.server.Server.take_message.Goals as goal

pub returns-in_ok-answers-in-Request : goal.returns-in_ok-answers-in-Request
returns-in_ok-answers-in-Request g c =
    let read = c.in-Request.ensures.read in
    let answer = c.in_ok-answer-in-Request.ensures in
    let all = c.in_ok-answers-in-Request.ensures in
    takes_request g.W.Workspace.documents c.args.self.now c.answer.new.self
    (view c.args.message.now) (view c.in-Request.id.now) (view c.in_ok-answer-in-Request.answer)
    (option_map (λ n. n.now) c.in-Request.call.method)
    (map view c.in_ok-answers-in-Request.answers.items)
    read.0 read.1.has_method read.1.method answer.id answer.refused answer.phase answer.texts all
