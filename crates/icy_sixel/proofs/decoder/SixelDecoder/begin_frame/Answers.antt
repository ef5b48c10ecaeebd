use Rattle.icy_sixel.proofs.decoder.SixelDecoder.begin_frame.Goals as goal

pub returns-clause-session : goal.returns-clause-session
returns-clause-session c = rw (← c.self.view_is) c.new.ensures
