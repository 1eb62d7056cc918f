use Rattle.comp_encoder.proofs.KeepLaws.{bytes_component}
use Rattle.comp_encoder.proofs.items.encode_component.Goals as goal

pub returns-clause-bytes : goal.returns-clause-bytes
returns-clause-bytes c = bytes_component c.args.bytes.now c.requires
