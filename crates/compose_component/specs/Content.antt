-- The bytes of a component, lent or its own.
use Rattle.std.specs.Prelude.{ℕ, List}
use Rattle.compose_component.specs.declared.content.Content.{Content}
use Rattle.compose_component.specs.declared.content.Content.TheVariants as content

abbrev pub content_bytes : Content → List ℕ
content_bytes (content.Lent bytes) = bytes.now
content_bytes (content.Owned bytes) = bytes.items
