-- Why bytes are refused.
use Rattle.std.specs.Prelude.{◌≡◌, ◌⊎◌, ℕ, Bool, List, Err}
use Rattle.comp_entity.specs.Bounds as fault
use Rattle.comp_format.specs.Fault.{Form, NotCarried}
use Rattle.comp_format.specs.Sections.{component_at}
use Rattle.comp_reader.specs.declared.error.ReadError.{ReadError}
use Rattle.comp_reader.specs.declared.error.ReadError.TheVariants as read
use Rattle.comp_shape.specs.Image.{StopsAt}
use Rattle.comp_shape.specs.Shape.{HasFault, HasFaultAt}
use Rattle.comp_shape.specs.declared.error.ShapeError.{ShapeError}
use Rattle.comp_shape.specs.declared.error.ShapeError.TheVariants as errors

-- a refusal of bytes as that of a shape
abbrev pub as_shape : ReadError → ShapeError
as_shape (read.Form at) = errors.Form at
as_shape (read.NotCarried at) = errors.NotCarried at
as_shape read.Memory = errors.Memory

-- Why no items are read. Want of memory tells nothing of the bytes.
abbrev pub IsUnread : ShapeError → List ℕ → Type 0
IsUnread (errors.Form at) bytes = component_at 200 bytes ≡ Err Form
IsUnread (errors.NotCarried at) bytes = component_at 200 bytes ≡ Err NotCarried
IsUnread errors.Memory bytes = Unit {0}
IsUnread _ bytes = ⊥

-- why bytes have no shape
abbrev pub IsRefused : ShapeError → List ℕ → Type 0
IsRefused (errors.Form at) bytes = component_at 200 bytes ≡ Err Form
IsRefused (errors.NotCarried at) bytes = component_at 200 bytes ≡ Err NotCarried
IsRefused (errors.Index at) bytes = HasFaultAt bytes fault.Index at
IsRefused (errors.DoesNotFit at) bytes = HasFaultAt bytes fault.DoesNotFit at
IsRefused errors.TooDeep bytes = HasFault bytes fault.TooDeep
IsRefused errors.TooBig bytes = HasFault bytes fault.TooBig
IsRefused errors.Memory bytes = Unit {0}

-- Why bytes have no image, where components are imported under such names: they have no shape, or an item that has no
-- part in an image.
abbrev pub HasNoImage : (List ℕ → Bool) → ShapeError → List ℕ → Type 0
HasNoImage is_component (errors.NotCarried at) bytes = IsRefused (errors.NotCarried at) bytes ⊎ StopsAt is_component bytes at
HasNoImage is_component error bytes = IsRefused error bytes
