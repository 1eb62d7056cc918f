mod ViewLaws
mod SeenLaws
mod ExportLaws
mod Rows
mod SideLaws
mod TiedLaws
mod ComponentLaws
mod HidingLaws
