mod NumberedLaws
mod ArgumentLaws
mod ItemLaws
mod ReadLaws
