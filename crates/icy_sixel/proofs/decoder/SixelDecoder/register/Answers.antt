use Rattle.icy_sixel.proofs.decoder.SixelDecoder.register.Goals as goal

pub returns-clause-color : goal.returns-clause-color
returns-clause-color c = rw (← c.self.view_is) c.get.ensures.color
