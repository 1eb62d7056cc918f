use Rattle.comp_declare.proofs.scope.Scope.new.Goals as goal

pub returns : goal.returns
returns c = λ table. record { spaces = c.new.ensures table; imports = c.new-2.ensures table; exports = c.new-3.ensures table }
