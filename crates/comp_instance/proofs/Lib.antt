mod CoreLaws
mod IndexLaws
mod CanonLaws
mod ItemLaws
mod OwnLaws
mod RenamedLaws
mod InstanceLaws
mod ExportLaws
