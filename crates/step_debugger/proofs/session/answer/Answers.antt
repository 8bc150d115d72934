use Rattle.step_debugger.proofs.Common.{subst, Stream, Session, answer, session_of, Stops, SendsPart, ◌≡◌, ℕ, ◌≤◌, List, [], ◌++◌, ◌∙◌, ap, sym, Result, Ok, Trace, DebugError, Ending, Answer, Gathers}
use Rattle.step_debugger.specs.declared.command.DebugCommand.{DebugCommand}
use Rattle.step_debugger.specs.declared.focus.Focus.{Focus}
use Rattle.step_debugger.proofs.Sent.{cut_behind, stops_later}
use Rattle.step_debugger.proofs.session.answer.Goals as goal

-- what is asked of a command
abbrev Performs : Answer → Trace → Focus → (text now_text : List ℕ) → (old now : Stream) → Result Ending DebugError → Type 0
Performs a j d text now_text old now result = Gathers (text ++ a.text) (λ (x : Ending). (session_of j d ≡ a.session) × (x ≡ a.ends)) old now now_text result

-- what waits of an answer is not sent
sent_short : (a : Answer) (j : Trace) (d : Focus) (text waiting : List ℕ) (old now next : Stream) (ending : Ending) (e : DebugError) → text ≡ [] → Performs a j d text waiting old now (Ok ending)
    → old.faults ≤ now.faults → SendsPart e now.text next.text waiting × Stops now next e → SendsPart e old.text next.text a.text × Stops old next e
sent_short a j d text waiting old now next ending e none g fell h =
    let whole : a.text ≡ g.0 ++ waiting = ap (λ (t : List ℕ). t ++ a.text) (sym none) ∙ g.2 in
    (subst (λ (t : List ℕ). SendsPart e old.text next.text t) (sym whole) (cut_behind e old.text now.text next.text g.0 waiting g.1 h.0), stops_later old now next e fell h.1)

pub returns-in-Err-send-clause-sent : goal.returns-in-Err-send-clause-sent
returns-in-Err-send-clause-sent g c =
    let old : Stream = g.O.Sink.stream c.args.out.now in
    let new : Stream = g.O.Sink.stream c.send.new.out in
    let s : Session = session_of c.args.trail.now.trace c.args.focus.now in
    subst (λ (x : DebugCommand). SendsPart c.in-Err-send.error old.text new.text (answer s x).text × Stops old new c.in-Err-send.error) c.command_of.ensures
    (sent_short (answer s c.command_of.result) c.perform.new.trail.trace c.perform.new.focus c.clear.new.self c.perform.new.text old (g.O.Sink.stream c.perform.new.out) new
    c.in-Ok.ending c.in-Err-send.error c.clear.ensures c.in-Ok.ensures.sent c.in-Ok.ensures.later c.in-Err-send.ensures.sent)
