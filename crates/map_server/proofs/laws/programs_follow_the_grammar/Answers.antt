use Rattle.map_server.specs.Programs.{program_of-sound, program_of-complete}
use Rattle.map_server.proofs.laws.programs_follow_the_grammar.Goals as goal

pub returns : goal.returns
returns c = λ source program. (λ e. program_of-sound source program e, λ h. program_of-complete source program h.0 h.1)
